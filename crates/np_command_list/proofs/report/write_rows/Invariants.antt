use Rattle.std.proofs.Common.{◌+◌, ◌≤◌, false, length}
use Rattle.np_command.proofs.LeftLemmas.{HasLeft}
use Rattle.np_command.specs.Prelude.{list_steps}
use Rattle.np_command_list.proofs.report.write_rows.Given as goal
use Rattle.np_fold.specs.Prelude.{folding_of}
use Rattle.np_report.specs.Prelude.{names_of, rows_to_come}
use Rattle.np_routes.specs.Prelude.{cluster_rows, cluster_table}

-- what is held and the rows that are still to come are what is left of the text, and what is due for them is what may still be counted
abbrev pub invariant-loop-gathered : goal.invariant-loop-gathered
invariant-loop-gathered g l = record {
  left : HasLeft (g.O.Sink.taken l.fn.out) (g.O.Sink.taken l.out) (g.O.Sink.faults l.fn.out) (g.O.Sink.faults l.out)
      (rows_to_come g.F.Form.bytes (names_of (folding_of l.fn.folded)) l.fn.listing.query l.fn.report false (cluster_rows (cluster_table l.fn.folded l.fn.listing.controller)))
      l.gathered
      (rows_to_come g.F.Form.bytes (names_of (folding_of l.fn.folded)) l.fn.listing.query l.fn.report l.has_rows l.rows.rows);
  least : l.fn.steps ≤ l.steps;
  most : l.steps + l.rows.due ≤ l.fn.steps + list_steps l.fn.folded;
}

abbrev pub decreases-loop-gathered : goal.decreases-loop-gathered
decreases-loop-gathered g l = length l.rows.rows
