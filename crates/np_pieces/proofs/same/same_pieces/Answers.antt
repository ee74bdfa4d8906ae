use Rattle.std.proofs.Common.{◌+◌, arith}
use Rattle.np_pieces.proofs.SamePieces.{AreSameBefore-next, apart_at_overlap, same_before_end}
use Rattle.np_pieces.proofs.Walks.{IsWalked-init, IsWalked-next}
use Rattle.np_pieces.proofs.same.same_pieces.Goals as goal

pub loop-step-init : goal.loop-step-init
loop-step-init g c = (
  g.P.Point.LOW,
  IsWalked-init g.P.Point.number_of g.S.Cells.IsWell g.P.Point.LOW g.P.Point.HIGH _ _ c.requires.left c.requires.right,
  λ n above below. absurd (omega arith),
)

pub loop-step-preserved : goal.loop-step-preserved
loop-step-preserved g c =
    let from = c.loop-step.invariant.0 in
    let walked = c.loop-step.invariant.1 in
    let step = c.in-Some.step in
    let shared = c.in-Some.ensures.shared from (g.P.Point.HIGH + 1) walked.on in (
      g.P.Point.number_of step.hi + 1,
      IsWalked-next g.P.Point.number_of g.S.Cells.IsWell from (g.P.Point.HIGH + 1) c.args.left.now c.args.right.now c.loop-step.left.now c.loop-step.right.now step.lo step.hi step.first.now
          step.second.now step.left.now step.right.now walked shared,
      AreSameBefore-next g.P.Point.number_of g.S.Cells.IsWell g.P.Point.LOW from
          (g.P.Point.HIGH + 1) c.args.left.now c.args.right.now c.loop-step.left.now c.loop-step.right.now step.lo step.hi step.first.now step.second.now step.left.now step.right.now walked shared
          c.if-not-same.ensures.answer c.loop-step.invariant.2,
    )

pub returns-then-not-same : goal.returns-then-not-same
returns-then-not-same g c =
    let from = c.loop-step.invariant.0 in
    let walked = c.loop-step.invariant.1 in
    let step = c.in-Some.step in
    let shared = c.in-Some.ensures.shared from (g.P.Point.HIGH + 1) walked.on in
    apart_at_overlap g.P.Point.number_of g.S.Cells.IsWell g.S.Cells.has from
    (g.P.Point.HIGH + 1) c.args.left.now c.args.right.now c.loop-step.left.now c.loop-step.right.now step.lo step.hi step.first.now step.second.now step.left.now step.right.now walked shared
    c.if-not-same.ensures.answer

pub returns : goal.returns
returns g c =
    let walked = c.loop-step.invariant.1 in
    let ended = c.in_default.ensures c.loop-step.invariant.0 (g.P.Point.HIGH + 1) walked.on in
    same_before_end g.P.Point.number_of g.P.Point.point_of g.S.Cells.IsWell g.P.Point.LOW g.P.Point.HIGH c.loop-step.invariant.0 g.met.P.Point.point_of_number c.args.left.now c.args.right.now
    c.requires.left c.requires.right ended c.loop-step.invariant.2
