-- Estates without some of their rules. Policies stay, also with no rule left, and so do the types of NetworkPolicies.
use Rattle.std.specs.Prelude.{ℕ, List, map, filter, Bool, ◌&&◌, ◌==◌, not}
use Rattle.std.specs.List.{enumerate_from, list_any}
use Rattle.std.specs.Option.{option_map}
use Rattle.np_unused.specs.Order.{direction_number, tier_number}
use Rattle.np_unused.specs.Types.{Admin, AdminPolicy, Base, BasePolicy, Direction, Egress, EstateLists, Ingress, Net, NetPolicy, RuleRef, Tier}

-- ---- rules in a list

abbrev pub same_ref : RuleRef → RuleRef → Bool
same_ref a b = tier_number a.tier == tier_number b.tier && a.policy == b.policy && direction_number a.direction == direction_number b.direction && a.place == b.place

-- whether the rule of a policy at a place goes
abbrev pub goes : List RuleRef → Tier → ℕ → Direction → ℕ → Bool
goes rules tier policy direction place = list_any (same_ref (record { tier = tier; policy = policy; direction = direction; place = place })) rules

-- ---- policies

-- the items but for those whose places go
abbrev pub without_places : {X : Type 0} → (ℕ → Bool) → List X → List X
without_places gone items = map (λ numbered. numbered.1) (filter (λ numbered. not (gone numbered.0)) (enumerate_from 0 items))

abbrev pub admin_without : List RuleRef → ℕ × AdminPolicy → AdminPolicy
admin_without rules numbered = record numbered.1 {
  ingress = without_places (goes rules Admin numbered.0 Ingress) numbered.1.ingress;
  egress = without_places (goes rules Admin numbered.0 Egress) numbered.1.egress;
}

abbrev pub net_without : List RuleRef → ℕ × NetPolicy → NetPolicy
net_without rules numbered = record numbered.1 {
  ingress = option_map (without_places (goes rules Net numbered.0 Ingress)) numbered.1.ingress;
  egress = option_map (without_places (goes rules Net numbered.0 Egress)) numbered.1.egress;
}

abbrev pub base_without : List RuleRef → BasePolicy → BasePolicy
base_without rules policy = record policy { ingress = without_places (goes rules Base 0 Ingress) policy.ingress; egress = without_places (goes rules Base 0 Egress) policy.egress }

-- the estate without these rules
unfoldable pub without : EstateLists → List RuleRef → EstateLists
without lists rules = record lists {
  net_policies = map (net_without rules) (enumerate_from 0 lists.net_policies);
  admin_policies = map (admin_without rules) (enumerate_from 0 lists.admin_policies);
  baseline = option_map (base_without rules) lists.baseline;
}
