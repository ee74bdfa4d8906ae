use Rattle.std.proofs.Common.{◌≡◌, ◌∙◌, [], arith, take}
use Rattle.std.proofs.lemmas.List.{get_or_default}
use Rattle.np_names.proofs.CountLemmas.{HoldsCounts-more, times-take-le}
use Rattle.np_names.proofs.ThingLemmas.{things-all, things-push}
use Rattle.np_names.specs.Names.{wish_at}
use Rattle.np_names.proofs.by_name.in_order.Goals as goal

pub next_name-requires : goal.next_name-requires
next_name-requires c = omega (arith, c.loop-place.invariant.given c.index-wishes-place.result, times-take-le c.index-wishes-place.result c.args.wishes.now c.loop-place.place)

pub loop-place-preserved : goal.loop-place-preserved
loop-place-preserved c =
    let wishes = c.args.wishes.now in
    let place = c.loop-place.place in
    let is_wish : c.index-wishes-place.result ≡ wish_at wishes place = c.index-wishes-place.is ∙ get_or_default wishes place c.index-wishes-place.result [] (omega arith) in
    record {
      given = HoldsCounts-more wishes place c.index-wishes-place.result c.next_name.new.given.entries (omega arith) is_wish
          (c.in_ok-name.ensures.given (take place wishes) c.loop-place.invariant.given);
      things = things-push wishes c.in_ok-name.name place c.loop-place.things.keys c.put.new.things.keys
          (c.in_ok-name.ensures.name wishes place (omega arith) is_wish c.requires.counts c.loop-place.invariant.given) c.loop-place.invariant.things c.in_ok-put.ensures;
    }

pub returns : goal.returns
returns c = things-all c.args.wishes.now c.loop-place.place c.loop-place.things.keys (omega arith) c.loop-place.invariant.things
