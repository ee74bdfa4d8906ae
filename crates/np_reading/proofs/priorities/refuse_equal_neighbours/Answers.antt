use Rattle.std.proofs.Common.{◌-◌, ◌≤◌, ◌∙◌, sym, ap, arith, drop, length, length-drop}
use Rattle.np_reading.proofs.CountLemmas.{first_equal-short}
use Rattle.np_reading.specs.Prelude.{EqualPriority, refuse_found}
use Rattle.np_reading.proofs.priorities.refuse_equal_neighbours.Goals as goal

pub returns : goal.returns
returns c =
    let left = drop (c.loop-place.place - 1) c.args.ranks.now in
    let short : length left ≤ 1 = omega (arith, length-drop (c.loop-place.place - 1) c.args.ranks.now, c.loop-place-test.false) in
    ap (refuse_found (λ ranks. EqualPriority ranks.0.priority ranks.0.name ranks.1.name)) (sym c.loop-place.invariant ∙ first_equal-short left short)
