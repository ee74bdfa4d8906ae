-- What pods that have the same side share.
use Rattle.std.specs.Prelude.{ℕ, ◌≡◌, ◌<◌, length, true}
use Rattle.np_kinds.specs.Types.{Conns, EstateLists, Family, PodQuestion, PortSpot}
use Rattle.np_conns.specs.Prelude.{IsConns, has_spot, is_spot}
use Rattle.np_kinds.specs.Kinds.{side_allows_pod}
use Rattle.np_rules.specs.Prelude.{AllowTheSame, PodSide, near_pod, pod_at, side_of}

-- the pod at the place is one of the estate, and it allows the same as the side's pod with every far end
pub record IsAlike (side : PodSide) (like : ℕ) : Type 0 where
  pub there : like < length side.lists.pods
  pub same : AllowTheSame side.lists side.direction (near_pod side) (pod_at side.lists like)

-- the set is what the side allows with another pod as the far end, in packets of a family
pub record IsSetToward (side : PodSide) (peer : ℕ) (family : Family) (set : Conns) : Type 0 where
  pub members : (spot : PortSpot) → is_spot spot ≡ true → has_spot set spot ≡ side_allows_pod side peer family spot
  pub well : IsConns set

-- the same of what was asked
abbrev pub Answers : EstateLists → PodQuestion → Conns → Type 0
Answers lists asked set = IsSetToward (side_of lists asked.near asked.direction) asked.peer asked.family set
