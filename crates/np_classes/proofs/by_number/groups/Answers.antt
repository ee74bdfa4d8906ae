use Rattle.std.proofs.Common.{◌≡◌, ◌<◌, length, get_or, take, arith, ap, sym, ◌∙◌}
use Rattle.std.proofs.lemmas.List.{length-take-le, take_more, with_items_is}
use Rattle.std.proofs.lemmas.List.FromFn.{length-map-range_with_len}
use Rattle.np_classes.specs.Classes.{numbered}
use Rattle.np_classes.proofs.GroupSteps.{numbered_more}
use Rattle.np_classes.proofs.by_number.groups.Goals as goal

pub put-requires : goal.put-requires
put-requires c =
    let number = get_or c.args.numbers.now c.loop-place.place 0 in
    let within : number < c.args.count = c.requires.within c.loop-place.place 0 c.loop-place-test.true in
    rw (c.deref_mut.ensures.value, c.loop-place.invariant, length-map-range_with_len (numbered (take c.loop-place.place c.args.numbers.now)) 0 c.args.count) within

pub loop-place-preserved : goal.loop-place-preserved
loop-place-preserved c =
    let numbers = c.args.numbers.now in
    let place = c.loop-place.place in
    let so_far = take place numbers in
    let within : get_or numbers place 0 < c.args.count = c.requires.within place 0 c.loop-place-test.true in
    let many : length so_far ≡ place = length-take-le place numbers (omega arith) in
    let kept = c.put.auto.groups ∙ ap length c.deref_mut.ensures.value in
    with_items_is c.loop-place.made c.put.new.groups (kept ∙ sym c.loop-place.made.ok.0)
    ∙ c.in_ok-put.ensures
    ∙ rw (c.deref_mut.ensures.value, take_more numbers place 0 c.loop-place-test.true)
    (rw many at (numbered_more so_far c.args.count (get_or numbers place 0) c.loop-place.made.items within c.loop-place.invariant))
