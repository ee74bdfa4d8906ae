-- The pods that stand for kinds of workloads: their sides, and what these let through at all.
use Rattle.std.specs.Map.{lookup}
use Rattle.std.specs.Prelude.{nat_eq, true, Option, is_some, ℕ, ◌≡◌, List, Bool, ◌&&◌, false, Some, map, slice_get, slice_index}
use Rattle.np_kinds.specs.Types.{Direction, Egress, EstateLists, Family, Ingress, KindReach, PortSpot}
use Rattle.np_fold.specs.Prelude.{folding_of}
use Rattle.np_kinds.specs.Between.{source_pod}
use Rattle.np_reach.specs.Prelude.{may_at}
use Rattle.np_rules.specs.Prelude.{Contact, PodEnd, PodSide, near_pod, pod, pod_at, side_allows, side_of, with_pod}

-- ---- sides

-- the side of the first pod of a workload
abbrev pub first_side : EstateLists → Direction → ℕ → PodSide
first_side lists direction workload = side_of lists (source_pod (folding_of lists) workload) direction

-- whether a side allows a port with another pod as the far end
abbrev pub side_allows_pod : PodSide → ℕ → Family → PortSpot → Bool
side_allows_pod side peer family spot = side_allows side.lists side.direction (near_pod side) (with_pod peer family side spot)

-- ---- the sides of kinds

-- the first workload of a workload's kind
abbrev pub first_alike : EstateLists → ℕ → ℕ
first_alike lists workload = slice_index (folding_of lists).first_of_kinds (slice_index (folding_of lists).kinds workload)

-- the side of the pod that stands for a workload's kind
abbrev pub kind_side : EstateLists → Direction → ℕ → PodSide
kind_side lists direction workload = first_side lists direction (first_alike lists workload)

-- ---- the sides of kinds that are known

-- the lists of an estate, and the sides that are known of those that send and of those that receive, by the numbers of kinds
pub record KnownSides : Type 0 where
  pub lists : EstateLists
  pub senders : List (ℕ × PodSide)
  pub receivers : List (ℕ × PodSide)

-- the side of a kind, where it is known
abbrev pub known_at : List (ℕ × PodSide) → ℕ → Option PodSide
known_at known kind = lookup (nat_eq kind) known

-- what is known in a direction
abbrev pub known_towards : KnownSides → Direction → List (ℕ × PodSide)
known_towards sides Egress = sides.senders
known_towards sides Ingress = sides.receivers

-- the list of a direction
abbrev pub chosen : Direction → List (ℕ × PodSide) → List (ℕ × PodSide) → List (ℕ × PodSide)
chosen Egress senders receivers = senders
chosen Ingress senders receivers = receivers

-- whether the side of a workload's kind is known
abbrev pub knows : KnownSides → Direction → ℕ → Bool
knows sides direction workload = is_some (known_at (known_towards sides direction) (slice_index (folding_of sides.lists).kinds workload))

-- what is known is right: it is the side of the first pod of the kind's first workload
pub record AreKnown (lists : EstateLists) (direction : Direction) (known : List (ℕ × PodSide)) : Type 0 where
  pub each : (kind : ℕ) (side : PodSide) → known_at known kind ≡ Some side → side ≡ first_side lists direction (slice_index (folding_of lists).first_of_kinds kind)

-- of each kind of which the side was known it is
pub record StayKnown (old new : List (ℕ × PodSide)) : Type 0 where
  pub each : (kind : ℕ) → is_some (known_at old kind) ≡ true → is_some (known_at new kind) ≡ true

-- of the same lists is known what was, and maybe more
pub record KnowsMore (old new : KnownSides) : Type 0 where
  pub lists : new.lists ≡ old.lists
  pub senders : StayKnown old.senders new.senders
  pub receivers : StayKnown old.receivers new.receivers

-- ---- what kinds let through

-- the first pod of a workload, as rules see it
abbrev pub first_end : EstateLists → ℕ → PodEnd
first_end lists workload = pod_at lists (source_pod (folding_of lists) workload)

-- those of all kinds
abbrev pub first_ends : EstateLists → List PodEnd
first_ends lists = map (first_end lists) (folding_of lists).first_of_kinds

-- whether anything may pass between two kinds by what is known
abbrev pub may_pass : KindReach → ℕ → ℕ → Bool
may_pass reach near far = may_at reach.sent near far && may_at reach.received far near

-- What is known is right: where the side of a kind may not let another kind through, it allows nothing between their first pods.
unfoldable pub IsReach : EstateLists → Direction → List (List Bool) → Type 0
IsReach lists direction reach =
    (near far workload peer : ℕ) → slice_get (folding_of lists).first_of_kinds near ≡ Some workload → slice_get (folding_of lists).first_of_kinds far ≡ Some peer → may_at reach near far ≡ false
    → (contact : Contact) → contact.far ≡ pod (first_end lists peer) → side_allows lists direction (first_end lists workload) contact ≡ false

-- what is known of all kinds is right
pub record IsKindReach (lists : EstateLists) (reach : KindReach) : Type 0 where
  pub sent : IsReach lists Egress reach.sent
  pub received : IsReach lists Ingress reach.received
