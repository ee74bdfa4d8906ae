use Rattle.std.proofs.Common.{map, ap, ◌∙◌}
use Rattle.std.proofs.lemmas.List.{take_all}
use Rattle.np_owners.proofs.ChainLemmas.{owner_at, owners_at_tops, owners_at_tops-more, top_within}
use Rattle.np_owners.proofs.tops.top_owners.Goals as goal

pub loop-top-preserved : goal.loop-top-preserved
loop-top-preserved c =
    let items = c.args.items.now in
    let within = top_within items c.args.chains.now c.in_ok-tops.tops.items _ c.requires c.in_ok-tops.ensures.within c.deref-top-items.ensures.value c.loop-top.top-index c.loop-top-test.true in
    owners_at_tops-more items _ c.loop-top.top-index c.index-items-top.result c.loop-top.made.items c.push.new.self.items c.loop-top-test.true within c.index-items-top.is
    (rw c.in_ok-last_owner.ensures at c.in_ok-push.ensures.items) c.loop-top.invariant

pub returns : goal.returns
returns c =
    let items = c.args.items.now in
    c.loop-top.invariant ∙ ap (map (owner_at items)) (take_all _ _ c.loop-top-test.false)
    ∙ owners_at_tops items _ (c.deref-top-items.ensures.value ∙ (rw c.requires at c.in_ok-tops.ensures.exact))
