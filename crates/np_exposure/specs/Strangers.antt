-- Pods that nobody has written yet, what requirements ask of them, and what a pod's side says of them.
use Rattle.std.specs.Prelude.{◌≡◌, List, Bool, true, is_some, codes}
use Rattle.std.specs.List.{list_all}
use Rattle.np_conns.specs.Prelude.{Conns, IsConns, has_spot, is_spot}
use Rattle.np_exposure.specs.Types.{Namespace, Pair, Pod, PortSpot, Side, SidedRequirement, Stranger}
use Rattle.np_labels.specs.Prelude.{meets_requirement, negation_of, value_of}
use Rattle.np_rules.specs.Prelude.{PodSide, near_pod, side_allows, with_stranger}

-- Whether the labels of its namespace say the namespace's name. A hypothetical pod is any stranger of which they do.
abbrev pub is_hypothetical : Stranger → Bool
is_hypothetical s = is_some (value_of s.namespace (codes "kubernetes.io/metadata.name"))

-- the labels that a requirement on a side looks at
abbrev pub labels_at : Side → Stranger → List Pair
labels_at Namespace s = s.namespace
labels_at Pod s = s.labels

-- whether a stranger meets a requirement
abbrev pub meets : SidedRequirement → Stranger → Bool
meets asked s = meets_requirement asked.requirement (labels_at asked.side s)

abbrev pub meets_all : List SidedRequirement → Stranger → Bool
meets_all all s = list_all (λ asked. meets asked s) all

-- the requirement on the same side that is met exactly where this one is not
abbrev pub negated : SidedRequirement → SidedRequirement
negated asked = record asked { requirement = negation_of asked.requirement }

-- whether the side allows a spot with the stranger as its far end
abbrev pub exposes : PodSide → Stranger → PortSpot → Bool
exposes side s spot = side_allows side.lists side.direction (near_pod side) (with_stranger s side spot)

-- the set has exactly the spots that the side allows with the stranger as its far end
pub record IsExposure (side : PodSide) (s : Stranger) (conns : Conns) : Type 0 where
  pub members : (spot : PortSpot) → is_spot spot ≡ true → has_spot conns spot ≡ exposes side s spot
  pub well : IsConns conns
