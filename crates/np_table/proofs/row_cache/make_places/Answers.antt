use Rattle.std.proofs.Common.{[], ◌∷◌, None, arith}
use Rattle.std.proofs.lemmas.List.{length-append}
use Rattle.np_table.proofs.KeptLemmas.{CachesTheSame-place}
use Rattle.np_table.proofs.row_cache.make_places.Goals as goal

pub loop-by_kind-preserved : goal.loop-by_kind-preserved
loop-by_kind-preserved c = rw c.in_ok-push.ensures.items (record {
  few = omega (arith, length-append c.loop-by_kind.by_kind.items (None ∷ []), c.len.ensures, c.loop-by_kind-test.true, c.loop-by_kind.by_kind.ok);
  same = CachesTheSame-place c.args.by_kind.now.items c.loop-by_kind.by_kind.items c.loop-by_kind.invariant.same;
})
