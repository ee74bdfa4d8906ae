use Rattle.std.proofs.Common.{Some, map, ap, ◌∙◌}
use Rattle.np_fold.specs.Prelude.{Owner, traits_of, with_owner}
use Rattle.np_fold.proofs.FoldLemmas.{traits-more}
use Rattle.np_fold.proofs.kinds.traits_by_name.Goals as goal

pub loop-one-preserved : goal.loop-one-preserved
loop-one-preserved c =
    ap (map Some) c.in_ok-push.ensures.ok
    ∙ traits-more c.args.keys.now c.args.cidrs.now c.args.pods.now c.args.firsts.now c.args.named.now c.loop-one.one-index c.one-item.result c.index-pods-first.result c.loop-one.made
    c.in_ok-traits_with.field-0
    c.requires.named c.requires.firsts c.loop-one-test.true c.one-item.is c.index-pods-first.is c.loop-one.invariant
    (c.in_ok-traits_with.ensures ∙ ap (λ (owner : Owner). with_owner owner (traits_of c.args.keys.now c.args.cidrs.now c.index-pods-first.result)) c.nobody.ensures)
