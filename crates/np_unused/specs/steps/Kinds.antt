-- Pods that stand for their kinds.
use Rattle.std.specs.Prelude.{◌≡◌, ◌≢◌, ℕ, ◌<◌, List, length, Bool, true, false, ◌||◌, ◌==◌, not, Some, slice_get, slice_index}
use Rattle.np_unused.specs.Types.{EstateLists, KindPod}
use Rattle.np_fold.specs.Prelude.{folding_of}
use Rattle.np_kinds.specs.Prelude.{source_pod}

-- the kind of the workload of the pod at a place
abbrev pub pod_kind : EstateLists → ℕ → ℕ
pod_kind lists place = slice_index (folding_of lists).kinds (slice_index (folding_of lists).numbers place)

-- the first pod of the first workload of a kind
abbrev pub first_of_kind : EstateLists → ℕ → ℕ
first_of_kind lists kind = source_pod (folding_of lists) (slice_index (folding_of lists).first_of_kinds kind)

-- the pod is the first one of the kind, and it is told whether there is another among the first pods
pub record IsKindPodOf (lists : EstateLists) (pods kind : ℕ) (one : KindPod) : Type 0 where
  pub pod : one.pod ≡ first_of_kind lists kind
  pub shared : one.is_shared ≡ true → (p : ℕ) × (p < length lists.pods) × (pod_kind lists p ≡ kind) × (p ≢ one.pod)
  pub alone : one.is_shared ≡ false → (p : ℕ) → p < pods → pod_kind lists p ≡ kind → p ≡ one.pod

-- each kind has one
pub record AreKindPodsOf (lists : EstateLists) (pods : ℕ) (kinds : List KindPod) : Type 0 where
  pub count : length kinds ≡ length (folding_of lists).first_of_kinds
  pub each : (kind : ℕ) (one : KindPod) → slice_get kinds kind ≡ Some one → IsKindPodOf lists pods kind one

abbrev pub AreKindPods : EstateLists → List KindPod → Type 0
AreKindPods lists kinds = AreKindPodsOf lists (length lists.pods) kinds

-- whether a kind is asked for with another, or with itself: there has to be another pod
abbrev pub is_asked : ℕ → ℕ → KindPod → Bool
is_asked near kind far = not (kind == near) || far.is_shared
