-- The policies that speak of a pod, each as its place in the estate's list and its rules of the direction.
use Rattle.std.specs.Prelude.{◌≡◌, List, [], filter, flat_map, length, Some, unwrap_or}
use Rattle.std.specs.List.{slice_get}
use Rattle.np_rules.specs.Types.{AdminPolicy, AdminRule, Direction, NetPolicy, NetRule, PolicyRules, RuleId}
use Rattle.np_rules.specs.model.Ends.{PodEnd}
use Rattle.np_rules.specs.Layers.{Pairwise}
use Rattle.np_rules.specs.LayerRules.{ids_from}
use Rattle.np_rules.specs.model.NetTier.{isolates}
use Rattle.np_rules.specs.model.Places.{admin_rules_of, net_rules_of}
use Rattle.np_rules.specs.model.Selection.{subject_selects}

-- what is kept of a policy: its place, and its rules
pub record IsPolicyAt {P R : Type 0} (policies : List P) (rules_of : P → List R) (kept : PolicyRules R) (policy : P) : Type 0 where
  pub place : slice_get policies kept.place ≡ Some policy
  pub rules : kept.rules.now ≡ rules_of policy

-- the admin policies that select the pod, in order
abbrev pub AreSelecting : List AdminPolicy → Direction → PodEnd → List (PolicyRules AdminRule) → Type 0
AreSelecting policies direction p kept = Pairwise (IsPolicyAt policies (admin_rules_of direction)) kept (filter (λ policy. subject_selects policy.subject p) policies)

-- the rules of a direction, and none where it is not among the policy's types
abbrev pub net_rules_in : Direction → NetPolicy → List NetRule
net_rules_in direction policy = unwrap_or (net_rules_of direction policy) []

-- the NetworkPolicies that isolate the pod, in order
abbrev pub AreIsolating : List NetPolicy → Direction → PodEnd → List (PolicyRules NetRule) → Type 0
AreIsolating policies direction p kept = Pairwise (IsPolicyAt policies (net_rules_in direction)) kept (filter (isolates direction p) policies)

-- the names of the rules of policies, policy by policy
abbrev pub ids_of : {R : Type 0} → List (PolicyRules R) → List RuleId
ids_of {R} policies = flat_map (λ (one : PolicyRules R). ids_from one.place 0 (length one.rules.now)) policies
