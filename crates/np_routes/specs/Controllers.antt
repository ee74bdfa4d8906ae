-- Who sends what comes through ingresses, and what may come.
use Rattle.std.specs.Prelude.{ℕ, ◌*◌, [], ◌∷◌, Bool, false, ◌&&◌, ◌==◌, not, codes, Option, Some, None, option_map}
use Rattle.std.specs.List.{list_any}
use Rattle.std.specs.Option.{option_map_or}
use Rattle.np_routes.specs.Types.{EstateLists, Four, Ingress, PortSpot, Stranger}
use Rattle.np_model.specs.Prelude.{families_of}
use Rattle.np_fold.specs.Prelude.{Folding}
use Rattle.np_routes.specs.Routes.{is_routed}
use Rattle.np_rules.specs.Prelude.{contact, pod, pod_at, side_allows, side_rule_count, stranger_end}
use Rattle.np_kinds.specs.Prelude.{between_pods, first_side, source_pod}
use Rattle.np_table.specs.Prelude.{rules_of_pair}

-- ---- a controller that is not known

-- a pod without labels, whose namespace has the empty name
abbrev pub any_controller : Stranger
any_controller = record { namespace = record { key = codes "kubernetes.io/metadata.name"; value = [] } ∷ []; labels = [] }

-- ---- what may come to a pod

-- Whether the controller may send it to the pod at a place: the controller that is a pod, by its place, in some family of the list. Where
-- none is known, this is whether the pod's own side allows what comes from a pod without labels, in a namespace named "". That pod stands
-- for a controller of which nothing is known. A controller that policies name, by labels or by namespace, is asked about only where
-- `--controller` names it. The pod has no address, so the family changes nothing.
abbrev pub may_send : EstateLists → Option ℕ → ℕ → PortSpot → Bool
may_send lists None receiver spot =
    side_allows lists Ingress (pod_at lists receiver) (contact Ingress (pod (pod_at lists receiver)) (pod (stranger_end any_controller)) Four spot)
may_send lists (Some sender) receiver spot = list_any (λ family. between_pods lists sender receiver family spot) (families_of lists.pods)

-- Whether a TCP port of the pod at a place is reached through ingresses: a route leads to it, and the controller may send to it.
unfoldable pub ingress_reaches : EstateLists → Option ℕ → ℕ → PortSpot → Bool
ingress_reaches lists sender receiver spot = is_routed lists (pod_at lists receiver) spot && may_send lists sender receiver spot

-- ---- the same of workloads

-- whether a workload is the controller
abbrev pub is_controller : Option ℕ → ℕ → Bool
is_controller controller workload = option_map_or (λ number. number == workload) controller false

-- the pod that stands for a controller that is a workload: its first one
abbrev pub sender_of : Folding → Option ℕ → Option ℕ
sender_of folding controller = option_map (source_pod folding) controller

-- whether a TCP port of a workload is reached through ingresses; of the controller itself none is
unfoldable pub ingress_allows : EstateLists → Folding → Option ℕ → ℕ → PortSpot → Bool
ingress_allows lists folding controller workload spot =
    not (is_controller controller workload) && ingress_reaches lists (sender_of folding controller) (source_pod folding workload) spot

-- an estate, and the controller of its ingresses: a workload's number, or none where it is not known
pub record Routing : Type 0 where
  pub lists : EstateLists
  pub controller : Option ℕ

-- How many rules may be looked at: twice those that speak of the workload, and of the controller where it is a workload.
abbrev pub ingress_steps : EstateLists → Option ℕ → ℕ → ℕ
ingress_steps lists None workload = 2 * side_rule_count (first_side lists Ingress workload)
ingress_steps lists (Some controller) workload = 2 * rules_of_pair lists controller workload
