-- What decides a packet at one of its ends.
use Rattle.std.specs.Prelude.{ℕ, List, ◌++◌, codes, map, filter, Bool, true, false, nat_lt, Option, Some, None, if◌then◌else◌}
use Rattle.std.specs.Cmp.Lexicographic.{slice_cmp}
use Rattle.std.specs.Ordering.{nat_cmp, match_ordering}
use Rattle.np_rules.specs.Types.{Action, Allow, Decider, Deny, Direction, EstateLists, NetPolicy, Pass, RuleName}
use Rattle.np_rules.specs.model.AdminTier.{admin_decider, least_by}
use Rattle.np_rules.specs.model.BaseTier.{base_decider}
use Rattle.np_rules.specs.model.Ends.{ModelEnd, Contact, PodEnd, pod, address}
use Rattle.np_rules.specs.model.NetTier.{isolates, is_isolated, placed_net_matches}
use Rattle.np_rules.specs.model.Places.{PlacedAdminRule, PlacedBaseRule, PlacedNetRule, net_places}
use Rattle.np_rules.specs.model.Sides.{is_allow}
use Rattle.np_rules.specs.declared.decider.Decider.TheVariants.{NoSide, Admin, Net, Isolated, Base, Free}

-- `namespace/name`
abbrev pub net_policy_name : NetPolicy → List ℕ
net_policy_name policy = policy.namespace ++ codes "/" ++ policy.name

abbrev pub admin_rule_name : PlacedAdminRule → RuleName
admin_rule_name placed = record { policy = placed.policy.name; place = placed.place }

abbrev pub net_rule_name : PlacedNetRule → RuleName
net_rule_name placed = record { policy = net_policy_name placed.policy; place = placed.place }

abbrev pub base_rule_name : PlacedBaseRule → RuleName
base_rule_name placed = record { policy = codes "default"; place = placed.place }

-- ---- NetworkPolicies

-- a rule stands before another: its policy's name is smaller, or the same and the rule's place smaller
abbrev pub net_precedes : PlacedNetRule → PlacedNetRule → Bool
net_precedes a b = match_ordering (slice_cmp nat_cmp a.policy.name b.policy.name) true (nat_lt a.place b.place) false

-- the first of the matching rules of the policies that select the pod
abbrev pub net_decider : List NetPolicy → Direction → PodEnd → Contact → Option PlacedNetRule
net_decider policies direction p contact = least_by net_precedes (filter (placed_net_matches contact) (net_places policies direction p))

-- the names of the policies that isolate the pod, in the order of the estate, which is that of their bytes
abbrev pub isolating_names : List NetPolicy → Direction → PodEnd → List (List ℕ)
isolating_names policies direction p = map net_policy_name (filter (isolates direction p) policies)

-- at an isolated pod the first matching rule decides, or that it is isolated
abbrev pub net_decides : Option RuleName → List (List ℕ) → Option PlacedNetRule → Decider
net_decides pass policies None = Isolated pass policies
net_decides pass policies (Some placed) = Net pass (net_rule_name placed)

-- ---- the baseline

-- at any other pod the rule of the baseline decides, or nothing does
abbrev pub base_decides : Option RuleName → Option PlacedBaseRule → Decider
base_decides pass None = Free pass
base_decides pass (Some placed) = Base pass (base_rule_name placed) (is_allow placed.rule.action)

-- ---- all tiers

-- what decides below the admin tier, where `pass` is the rule with Pass that was met, if one was
abbrev pub lower_decider : EstateLists → Direction → PodEnd → Contact → Option RuleName → Decider
lower_decider lists direction p contact pass = if is_isolated lists.net_policies direction p
    then net_decides pass (isolating_names lists.net_policies direction p) (net_decider lists.net_policies direction p contact)
    else base_decides pass (base_decider lists.baseline direction p contact)

-- a rule decides, except that one with Pass hands down
abbrev pub action_decides : Action → RuleName → (Option RuleName → Decider) → Decider
action_decides Allow rule lower = Admin rule true
action_decides Deny rule lower = Admin rule false
action_decides Pass rule lower = lower (Some rule)

abbrev pub admin_decides : Option PlacedAdminRule → (Option RuleName → Decider) → Decider
admin_decides None lower = lower None
admin_decides (Some placed) lower = action_decides placed.rule.action (admin_rule_name placed) lower

-- what decides a packet at an end; at an address there is no side that could
abbrev pub decider : EstateLists → Direction → ModelEnd → Contact → Decider
decider lists direction (pod p) contact = admin_decides (admin_decider lists.admin_policies direction p contact) (lower_decider lists direction p contact)
decider lists direction (address a) contact = NoSide

-- whether what decides allows
abbrev pub decider_allows : Decider → Bool
decider_allows NoSide = true
decider_allows (Admin rule allow) = allow
decider_allows (Net pass rule) = true
decider_allows (Isolated pass policies) = false
decider_allows (Base pass rule allow) = allow
decider_allows (Free pass) = true
