use Rattle.std.proofs.Common.{arith, ◌<◌, length}
use Rattle.std.proofs.lemmas.Bool.{OnTrue_at, OnTrue_from}
use Rattle.np_unused.proofs.KindPodLemmas.{own_kind}
use Rattle.np_unused.proofs.SameKindLemmas.{same_before}
use Rattle.np_unused.proofs.StepLemmas.{kind_at, pod_of_kind}
use Rattle.np_unused.proofs.same_kinds.is_same_before.Goals as goal

pub is_same_side-requires-clause-pod : goal.is_same_side-requires-clause-pod
is_same_side-requires-clause-pod c =
    let kinds = c.args.kinds.now.pods.now in
    (own_kind c.args.kinds.now.estate.now c.requires.kinds.lawful kinds c.requires.kinds.pods c.args.near (pod_of_kind kinds c.args.near) (kind_at kinds c.args.near c.requires.near)).0

pub is_same_side-requires-clause-other : goal.is_same_side-requires-clause-other
is_same_side-requires-clause-other c =
    let kinds = c.args.kinds.now.pods.now in
    let within : c.args.first < length kinds = omega (arith, c.if-first-near.true, c.requires.near) in
    (own_kind c.args.kinds.now.estate.now c.requires.kinds.lawful kinds c.requires.kinds.pods c.args.first (pod_of_kind kinds c.args.first) (kind_at kinds c.args.first within)).0

pub returns-then-first-near : goal.returns-then-first-near
returns-then-first-near c =
    let kinds = c.args.kinds.now in
    OnTrue_from c.is_same_side.result _ (λ yes.
    same_before kinds.estate.now kinds.direction kinds.pods.now c.args.near c.args.first c.if-first-near.true (OnTrue_at yes c.is_same_side.ensures.decides))
