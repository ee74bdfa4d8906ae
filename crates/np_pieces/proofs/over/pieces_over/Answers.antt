use Rattle.std.proofs.Common.{◌≡◌, ◌+◌, drop, arith}
use Rattle.np_base.proofs.Lists.{drop-item, drop-ended}
use Rattle.np_pieces.proofs.Overs.{IsOver-init, IsOver-next, IsOver-end, IsOver-values, IsOver-covers}
use Rattle.np_pieces.proofs.over.pieces_over.Goals as goal

pub loop-range-init : goal.loop-range-init
loop-range-init g c = record {
  over = IsOver-init g.P.Point.number_of g.S.Cells.IsWell g.P.Point.LOW g.P.Point.HIGH _ c.args.inside.now c.args.outside.now _ _ c.LOW-from.ensures c.requires c.new-made.ensures.items;
  within = omega (arith, g.met.P.Point.ordered);
}

pub loop-range-preserved : goal.loop-range-preserved
loop-range-preserved g c =
    let taken = drop-item c.args.ranges.now c.loop-range.range-index c.range-item.result c.loop-range-test.true c.range-item.is in
    record {
      over = IsOver-next g.P.Point.number_of g.S.Cells.IsWell g.P.Point.LOW g.P.Point.HIGH c.loop-range.from c.number-lo.result c.number-last.result c.args.inside.now c.args.outside.now
          c.args.ranges.now (drop c.loop-range.range-index c.args.ranges.now) c.range-item.result
          (drop (c.loop-range.range-index + 1) c.args.ranges.now) c.loop-range.made.items c.append_gap.new.made.items c.append_run.new.made.items taken c.number-lo.ensures.value
          c.number-last.ensures.value c.loop-range.invariant.over c.in_ok-append_gap.ensures c.in_ok-append_run.ensures;
      within = omega arith;
    }

pub returns-then-last-HIGH : goal.returns-then-last-HIGH
returns-then-last-HIGH g c =
    let taken = drop-item c.args.ranges.now c.loop-range.range-index c.range-item.result c.loop-range-test.true c.range-item.is in
    let over = IsOver-next g.P.Point.number_of g.S.Cells.IsWell g.P.Point.LOW g.P.Point.HIGH c.loop-range.from c.number-lo.result c.number-last.result c.args.inside.now c.args.outside.now
    c.args.ranges.now (drop c.loop-range.range-index c.args.ranges.now) c.range-item.result
    (drop (c.loop-range.range-index + 1) c.args.ranges.now) c.loop-range.made.items c.append_gap.new.made.items c.append_run.new.made.items taken c.number-lo.ensures.value
    c.number-last.ensures.value c.loop-range.invariant.over c.in_ok-append_gap.ensures c.in_ok-append_run.ensures in
    let ended : c.number-last.result + 1 ≡ g.P.Point.HIGH + 1 = omega arith in
    record {
      values = IsOver-values g.P.Point.number_of g.S.Cells.IsWell g.P.Point.LOW g.P.Point.HIGH (c.number-last.result + 1) _ _ _ _ _ ended over;
      covers = IsOver-covers g.P.Point.number_of g.S.Cells.IsWell g.P.Point.LOW g.P.Point.HIGH (c.number-last.result + 1) _ _ _ _ _ ended over;
    }

pub returns : goal.returns
returns g c =
    let over = IsOver-end g.P.Point.number_of g.S.Cells.IsWell g.P.Point.LOW g.P.Point.HIGH c.loop-range.from
    (c.HIGH-2.result + 1) c.args.inside.now c.args.outside.now c.args.ranges.now _ _ c.append_run-2.new.made.items (drop-ended c.args.ranges.now c.loop-range.range-index c.loop-range-test.false)
    (omega arith) c.loop-range.invariant.over c.in_ok-append_run-2.ensures in
    let ended : c.HIGH-2.result + 1 ≡ g.P.Point.HIGH + 1 = omega arith in
    record {
      values = IsOver-values g.P.Point.number_of g.S.Cells.IsWell g.P.Point.LOW g.P.Point.HIGH (c.HIGH-2.result + 1) _ _ _ _ _ ended over;
      covers = IsOver-covers g.P.Point.number_of g.S.Cells.IsWell g.P.Point.LOW g.P.Point.HIGH (c.HIGH-2.result + 1) _ _ _ _ _ ended over;
    }
