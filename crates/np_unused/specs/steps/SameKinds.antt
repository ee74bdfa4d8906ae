-- Kinds of workloads whose pods have the same side.
use Rattle.std.specs.Prelude.{◌≡◌, ◌≢◌, ℕ, ◌<◌, List, Option, Some, None, slice_get}
use Rattle.np_unused.specs.Types.{AllEnds, Direction, EstateLists, KindPod, Left, OneKind}
use Rattle.np_rules.specs.Prelude.{DecideTheSame, pod_at}

-- A kind stands before another one, and the same decides at the sides of both, with each far end.
pub record IsSameBefore (lists : EstateLists) (direction : Direction) (kinds : List KindPod) (near first : ℕ) : Type 0 where
  pub before : first < near
  pub same : (one other : KindPod) → slice_get kinds near ≡ Some one → slice_get kinds first ≡ Some other → DecideTheSame lists direction (pod_at lists one.pod) (pod_at lists other.pod)

-- what is left to be looked at: one kind where that is such a kind, and nothing where there are two such kinds
abbrev pub IsLeft : EstateLists → Direction → List KindPod → ℕ → Option Left → Type 0
IsLeft lists direction kinds near (Some AllEnds) = Unit {0}
IsLeft lists direction kinds near (Some (OneKind first)) = IsSameBefore lists direction kinds near first
IsLeft lists direction kinds near None = (first : ℕ) × (second : ℕ) × (first ≢ second) × IsSameBefore lists direction kinds near first × IsSameBefore lists direction kinds near second
