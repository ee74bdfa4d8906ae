use Rattle.std.proofs.Common.{length, arith, ap, sym, ◌∙◌}
use Rattle.np_fold.specs.Prelude.{Folding, folding_of}
use Rattle.np_table.proofs.DueLemmas.{due_from-start}
use Rattle.np_table.proofs.KindLemmas.{IsCached-nothing}
use Rattle.np_table.proofs.PlaceLemmas.{all_rows-from}
use Rattle.np_table.proofs.all_rows.Rows.new.Goals as goal
use Rattle.np_table.specs.Prelude.{estate_table, place_count}

pub invariant_of-result : goal.invariant_of-result
invariant_of-result c = (
  rw c.new.ensures (record {
    last = c.place_count-end.ensures.value ∙ ap (λ (f : Folding). place_count (length f.workloads)) c.workloads.ensures.value;
    within = omega arith;
    fits = c.place_count-end.ensures.fits;
    few = rw c.nothing-2.ensures (omega arith);
    keeps = rw c.nothing-2.ensures (IsCached-nothing c.args.folded.now (folding_of c.args.folded.now) _);
  }),
  c.nothing.ensures c.new.result.lists,
  c.new-2.ensures ∙ sym c.new.ensures,
)

pub returns-clause-rows : goal.returns-clause-rows
returns-clause-rows c = rw (c.new-3.ensures.items, c.new.ensures) (all_rows-from (estate_table c.args.folded.now))

pub returns-clause-due : goal.returns-clause-due
returns-clause-due c = rw (c.nothing-2.ensures, c.new.ensures) (due_from-start c.args.folded.now (folding_of c.args.folded.now))
