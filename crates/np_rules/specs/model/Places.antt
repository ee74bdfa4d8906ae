-- The rules that speak of a pod in a direction, each with its policy and its place among that policy's rules of the
-- direction, from 0. Policies stand in the order of the estate, and rules as written.
use Rattle.std.specs.Prelude.{ℕ, ◌+◌, List, [], map, flat_map, length, Option, Some, None, unwrap_or, if◌then◌else◌}
use Rattle.std.specs.List.{enumerate_from}
use Rattle.np_rules.specs.Types.{AdminPolicy, AdminRule, BasePolicy, Direction, Egress, EstateLists, Ingress, NetPolicy, NetRule}
use Rattle.np_rules.specs.model.Ends.{ModelEnd, PodEnd, pod, address}
use Rattle.np_rules.specs.model.Selection.{net_selects, subject_selects}

pub record PlacedAdminRule : Type 0 where
  pub policy : AdminPolicy
  pub place : ℕ
  pub rule : AdminRule

pub record PlacedNetRule : Type 0 where
  pub policy : NetPolicy
  pub place : ℕ
  pub rule : NetRule

-- a rule of the baseline, of which there is one at most
pub record PlacedBaseRule : Type 0 where
  pub place : ℕ
  pub rule : AdminRule

-- ---- admin policies

abbrev pub admin_rules_of : Direction → AdminPolicy → List AdminRule
admin_rules_of Ingress policy = policy.ingress
admin_rules_of Egress policy = policy.egress

abbrev pub admin_places_of : Direction → AdminPolicy → List PlacedAdminRule
admin_places_of direction policy = map (λ numbered. record { policy = policy; place = numbered.0; rule = numbered.1 }) (enumerate_from 0 (admin_rules_of direction policy))

-- the rules of the admin policies that select the pod
abbrev pub admin_places : List AdminPolicy → Direction → PodEnd → List PlacedAdminRule
admin_places policies direction p = flat_map (λ policy. if subject_selects policy.subject p then admin_places_of direction policy else []) policies

-- ---- NetworkPolicies

-- the rules of a direction, where it is among the policy's types
abbrev pub net_rules_of : Direction → NetPolicy → Option (List NetRule)
net_rules_of Ingress policy = policy.ingress
net_rules_of Egress policy = policy.egress

abbrev pub net_places_of : Direction → NetPolicy → List PlacedNetRule
net_places_of direction policy = map (λ numbered. record { policy = policy; place = numbered.0; rule = numbered.1 }) (enumerate_from 0 (unwrap_or (net_rules_of direction policy) []))

-- the rules of the NetworkPolicies that select the pod
abbrev pub net_places : List NetPolicy → Direction → PodEnd → List PlacedNetRule
net_places policies direction p = flat_map (λ policy. if net_selects policy p then net_places_of direction policy else []) policies

-- ---- the baseline

abbrev pub base_rules_of : Direction → BasePolicy → List AdminRule
base_rules_of Ingress policy = policy.ingress
base_rules_of Egress policy = policy.egress

-- the rules of the baseline, where there is one and it selects the pod
abbrev pub base_places : Option BasePolicy → Direction → PodEnd → List PlacedBaseRule
base_places None direction p = []
base_places (Some policy) direction p = if subject_selects policy.subject p
    then map (λ numbered. record { place = numbered.0; rule = numbered.1 }) (enumerate_from 0 (base_rules_of direction policy)) else []

-- ---- how many

-- how many rules speak of the pod in the direction
abbrev pub rule_count : EstateLists → Direction → PodEnd → ℕ
rule_count lists direction p = length (admin_places lists.admin_policies direction p) + length (net_places lists.net_policies direction p) + length (base_places lists.baseline direction p)

-- how many speak of an end: none of an address
abbrev pub end_rule_count : EstateLists → Direction → ModelEnd → ℕ
end_rule_count lists direction (pod p) = rule_count lists direction p
end_rule_count lists direction (address a) = 0
