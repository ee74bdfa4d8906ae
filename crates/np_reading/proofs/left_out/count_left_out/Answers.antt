use Rattle.std.proofs.Common.{◌≡◌, ◌+◌, cond, ◌∙◌, sym, arith, add-zero}
use Rattle.np_reading.proofs.CountLemmas.{length-makers, maker_at, is_left_out_at, count-left_out}
use Rattle.np_reading.proofs.left_out.count_left_out.Goals as goal
use Rattle.np_reading.proofs.left_out.count_left_out.Goals.{then-is_for, else-is_for}

pub bounds-makers-place : goal.bounds-makers-place
bounds-makers-place c =
    let long = length-makers c.args.items.now c.args.makers.now c.requires.makers in
    omega (arith, long, c.loop-place-test.true)

pub loop-place-preserved : goal.loop-place-preserved
loop-place-preserved c =
    let items = c.args.items.now in
    let place = c.loop-place.place in
    let within = c.loop-place-test.true in
    let marked = maker_at items c.args.makers.now place _ c.requires.makers within in
    let found = is_left_out_at items c.args.why place c.index-items-place.result _ c.is_for.result c.left_out.result within c.index-items-place.is marked c.left_out.ensures c.is_for.ensures in
    let step : c.if-is_for.count ≡ c.loop-place.count + cond c.is_for.result 1 0 =
    elim c.if-is_for.branch [ then-is_for w ↦ rw w.if-is_for.true w.count-is | else-is_for w ↦ rw w.if-is_for.false (w.count-is ∙ sym (add-zero _)) ] in
    record {
      count = count-left_out items c.args.why place c.loop-place.count c.if-is_for.count c.is_for.result found c.loop-place.invariant.count step;
      few = elim c.if-is_for.branch [ then-is_for w ↦ omega (arith, w.count-is, c.loop-place.invariant.few) | else-is_for w ↦ omega (arith, w.count-is, c.loop-place.invariant.few) ];
    }
