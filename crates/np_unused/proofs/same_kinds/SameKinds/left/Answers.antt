use Rattle.std.proofs.lemmas.Bool.{OnTrue_at}
use Rattle.np_unused.proofs.KindPodLemmas.{own_kind}
use Rattle.np_unused.proofs.StepLemmas.{kind_at, pod_of_kind}
use Rattle.np_unused.proofs.same_kinds.SameKinds.left.Goals as goal

pub side_mark-mark-requires : goal.side_mark-mark-requires
side_mark-mark-requires c =
    let kinds = c.args.kinds.now.pods.now in
    (own_kind c.args.kinds.now.estate.now c.requires.kinds.lawful kinds c.requires.kinds.pods c.args.near (pod_of_kind kinds c.args.near) (kind_at kinds c.args.near c.requires.near)).0

pub left_but-requires-clause-first : goal.left_but-requires-clause-first
left_but-requires-clause-first c = OnTrue_at c.if-is_same_before.true c.is_same_before.ensures
