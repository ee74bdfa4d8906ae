use Rattle.std.proofs.Common.{◌≡◌, ◌/◌, length, arith, ap, ◌∙◌}
use Rattle.np_fold.specs.Prelude.{Folding, folding_of}
use Rattle.np_table.proofs.DueLemmas.{source-below}
use Rattle.np_table.proofs.PlaceLemmas.{rows_from-over}
use Rattle.np_table.proofs.SideLemmas.{silent-rows}
use Rattle.np_table.proofs.all_rows.pass_over.Goals as goal
use Rattle.np_kinds.specs.Prelude.{number_of_workloads}

pub loop-destination-preserved : goal.loop-destination-preserved
loop-destination-preserved c =
    let lists = c.args.folded.now in
    let count = c.from-count.result in
    let source = c.args.place / count in
    let is : count ≡ number_of_workloads lists = c.from-count.ensures ∙ c.count.ensures ∙ ap (λ (f : Folding). length f.workloads) c.workloads.ensures.value in
    let low = source-below count c.args.place c.if-place-count.false in
    record {
      rows = rows_from-over lists (folding_of lists) source c.loop-destination.destination count is low c.loop-destination.invariant.within
          (silent-rows lists source c.loop-destination.destination (c.is_silent.ensures.silent c.if-is_silent.true)) ∙ c.loop-destination.invariant.rows;
      up = omega (arith, c.loop-destination.invariant.up);
      within = omega (arith, c.loop-destination-test.true);
    }
