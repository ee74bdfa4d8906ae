use Rattle.std.proofs.Common.{◌+◌}
use Rattle.np_pieces.proofs.Walks.{IsWalked-init, IsWalked-next, IsCombined-init, IsCombined-next, IsCombined-members, IsCombined-covers}
use Rattle.np_pieces.proofs.combine.combine_pieces.Goals as goal

pub loop-step-init : goal.loop-step-init
loop-step-init g c = (
  g.P.Point.LOW,
  IsWalked-init g.P.Point.number_of g.S.Cells.IsWell g.P.Point.LOW g.P.Point.HIGH _ _ c.requires.left c.requires.right,
  IsCombined-init g.P.Point.number_of g.S.Cells.IsWell g.S.Cells.has c.args.operation g.P.Point.LOW g.P.Point.HIGH _ _ _ c.requires.left c.requires.right c.new-made.ensures.items,
)

pub loop-step-preserved : goal.loop-step-preserved
loop-step-preserved g c =
    let from = c.loop-step.invariant.0 in
    let walked = c.loop-step.invariant.1 in
    let combined = c.loop-step.invariant.2 in
    let step = c.in-Some.step in
    let shared = c.in-Some.ensures.shared from (g.P.Point.HIGH + 1) walked.on in
    let grows = rw shared.start at (c.in_ok-append.ensures (rw shared.start shared.filled) c.in_ok-value.ensures.well) in (
      g.P.Point.number_of step.hi + 1,
      IsWalked-next g.P.Point.number_of g.S.Cells.IsWell from (g.P.Point.HIGH + 1) c.args.left.now c.args.right.now c.loop-step.left.now c.loop-step.right.now step.lo step.hi step.first.now
          step.second.now step.left.now step.right.now walked shared,
      IsCombined-next g.P.Point.number_of g.S.Cells.IsWell g.S.Cells.has c.args.operation g.P.Point.LOW from
          (g.P.Point.HIGH + 1) c.args.left.now c.args.right.now c.loop-step.left.now c.loop-step.right.now step.lo step.hi step.first.now step.second.now c.in_ok-value.value step.left.now
          step.right.now c.loop-step.made.items c.append.new.made.items walked shared combined c.in_ok-value.ensures.members grows,
    )

pub returns : goal.returns
returns g c =
    let walked = c.loop-step.invariant.1 in
    let ended = c.in_default.ensures c.loop-step.invariant.0 (g.P.Point.HIGH + 1) walked.on in
    record {
      members = IsCombined-members g.P.Point.number_of g.S.Cells.IsWell g.S.Cells.has c.args.operation g.P.Point.LOW g.P.Point.HIGH _ _ _ _ c.requires.left c.requires.right ended
          c.loop-step.invariant.2;
      covers = IsCombined-covers g.P.Point.number_of g.S.Cells.IsWell g.S.Cells.has c.args.operation g.P.Point.LOW g.P.Point.HIGH _ _ _ _ ended c.loop-step.invariant.2;
    }
