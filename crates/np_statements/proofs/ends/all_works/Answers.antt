use Rattle.std.proofs.Common.{length, ap, ◌∙◌, arith}
use Rattle.std.specs.List.{range_with_len}
use Rattle.std.proofs.lemmas.Iterator.{YieldsList-from_range, items_from_collect}
use Rattle.np_fold.specs.Prelude.{Folding}
use Rattle.np_statements.proofs.ends.all_works.Goals as goal

pub returns : goal.returns
returns c =
    let all = items_from_collect c.collect.result c.collect.ensures.ran (YieldsList-from_range 0 c.count.result c.count.result (cc) (omega arith)) in
    c.from_vec.ensures ∙ (rw c.in_ok-collect.was at all) ∙ ap (range_with_len 0) (c.count.ensures ∙ ap (λ (folding : Folding). length folding.workloads) c.workloads.ensures.value)
