use Rattle.std.proofs.Common.{◌≡◌, ◌<◌, length, slice_get, Some, arith}
use Rattle.np_unused.proofs.KindStepLemmas.{all_seen, kind_in, other_seen, own_seen}
use Rattle.np_unused.proofs.StepLemmas.{kind_at, pod_of_kind}
use Rattle.np_unused.proofs.kind_pods.note_others.Goals as goal
use Rattle.np_unused.proofs.kind_pods.note_others.Goals.{then-kinds-kind, else-kinds-kind}

pub bounds-kinds-kind : goal.bounds-kinds-kind
bounds-kinds-kind c = kind_in c.args.folded.now c.loop-pod.pod c.kind_of_pod-kind.result c.loop-pod.kinds (omega arith) c.kind_of_pod-kind.ensures c.loop-pod.invariant

pub bounds-kinds-kind-then-kinds-kind : goal.bounds-kinds-kind-then-kinds-kind
bounds-kinds-kind-then-kinds-kind c =
    kind_in c.args.folded.now c.loop-pod.pod c.kind_of_pod-kind.result c.loop-pod.kinds (omega arith) c.kind_of_pod-kind.ensures c.loop-pod.invariant

pub loop-pod-preserved : goal.loop-pod-preserved
loop-pod-preserved c =
    let lists = c.args.folded.now in
    let pod = c.loop-pod.pod in
    let kind = c.kind_of_pod-kind.result in
    let kinds = c.loop-pod.kinds in
    let inside : pod < length lists.pods = omega arith in
    let one = pod_of_kind kinds kind in
    let at : slice_get kinds kind ≡ Some one = kind_at kinds kind (kind_in lists pod kind kinds inside c.kind_of_pod-kind.ensures c.loop-pod.invariant) in
    elim c.if-kinds-kind.branch [
      | then-kinds-kind w ↦ rw w.kinds-is (other_seen lists pod kind kinds one c.kind_of_pod-kind.ensures at c.loop-pod.invariant inside w.if-kinds-kind.true)
      | else-kinds-kind w ↦ rw w.kinds-is (own_seen lists pod kind kinds one c.kind_of_pod-kind.ensures at c.loop-pod.invariant w.if-kinds-kind.false)
    ]

pub returns : goal.returns
returns c = all_seen c.args.folded.now c.loop-pod.pod c.loop-pod.kinds (omega arith) c.loop-pod.invariant
