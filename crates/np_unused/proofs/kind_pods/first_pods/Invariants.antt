use Rattle.std.proofs.Common.{◌≡◌, ℕ, Some, length, slice_get}
use Rattle.np_unused.proofs.kind_pods.first_pods.Given as goal
use Rattle.np_unused.specs.Prelude.{IsKindPodOf, KindPod}

-- each kind so far has its pod
abbrev pub invariant-loop-workload : goal.invariant-loop-workload
invariant-loop-workload l = record {
  count : length l.kinds.items ≡ l.workload-index;
  each : (kind : ℕ) (one : KindPod) → slice_get l.kinds.items kind ≡ Some one → IsKindPodOf l.folded 0 kind one;
}
