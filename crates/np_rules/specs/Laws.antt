-- The words of the laws.
use Rattle.std.specs.Prelude.{◌≡◌, ◌⊎◌, List, [], ◌∷◌, ◌++◌, Bool}
use Rattle.std.specs.List.{list_any}
use Rattle.std.specs.Option.{option_map}
use Rattle.np_rules.specs.Types.{Direction, Egress, EstateLists, Ingress, NetPolicy, NetRule}
use Rattle.np_model.specs.Prelude.{admin_peers, is_networks}

-- the item is one of the list
abbrev pub IsAmong : {X : Type 0} → X → List X → Type 0
IsAmong x [] = ⊥
IsAmong x (y ∷ ys) = (x ≡ y) ⊎ IsAmong x ys

-- the lists with other NetworkPolicies
abbrev pub with_net_policies : EstateLists → List NetPolicy → EstateLists
with_net_policies lists policies = record lists { net_policies = policies }

-- the policy with one more rule of a direction, where that is among its types
abbrev pub with_rule : Direction → NetRule → NetPolicy → NetPolicy
with_rule Ingress rule policy = record policy { ingress = option_map (λ rules. rules ++ rule ∷ []) policy.ingress }
with_rule Egress rule policy = record policy { egress = option_map (λ rules. rules ++ rule ∷ []) policy.egress }

-- ---- networks

-- whether some peer of a rule of an admin policy or of the baseline lists networks
abbrev pub has_networks : EstateLists → Bool
has_networks lists = list_any is_networks (admin_peers lists.admin_policies lists.baseline)
