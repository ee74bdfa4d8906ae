use Rattle.std.proofs.Common.{◌∙◌, sym, ap}
use Rattle.std.proofs.lemmas.Iterator.{YieldsList-from_zip}
use Rattle.std.proofs.lemmas.Iterator.Adapters.{YieldsList-from_vec}
use Rattle.std.proofs.lemmas.Iterator.Consumers.{YieldsList-end}
use Rattle.np_reading.specs.steps.Gathering as spec
use Rattle.np_reading.proofs.GatherLemmas.{counted-more, gathered-more, pairs-same}
use Rattle.np_reading.proofs.grouped_items.gather.Goals as goal

pub loop-item-preserved : goal.loop-item-preserved
loop-item-preserved c = record {
  gathered = gathered-more c.loop-item.number c.loop-item.yielded c.in-Some.item c.in-Some.context (spec.seen c.loop-item.gathered)
      (spec.seen c.add.new.self) c.loop-item.invariant.counted c.loop-item.invariant.gathered c.in_ok-add.ensures;
  counted = counted-more c.loop-item.number c.loop-item.yielded (c.in-Some.item, c.in-Some.context) c.loop-item.invariant.counted;
}

pub returns : goal.returns
returns c =
    let items = YieldsList-from_vec c.args.items (cc) (let long = c.into_vec.result.ok.0 in cc) in
    let contexts = YieldsList-from_vec c.args.contexts.items (cc) (let long = c.args.contexts.ok.0 in cc) in
    let whole = (YieldsList-end (YieldsList-from_zip items contexts) c.loop-item.yielded c.loop-item.item-iterator c.loop-item.yielded_by c.next.result c.next.new.self c.in-None.is
    c.next.ensures.steps).0 in
    c.loop-item.invariant.gathered ∙ ap (spec.with_pairs spec.nothing 1) (sym (pairs-same c.loop-item.yielded) ∙ whole)
