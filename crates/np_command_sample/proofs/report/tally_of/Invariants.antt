use Rattle.std.proofs.Common.{◌≡◌, ◌+◌, ◌≤◌, length}
use Rattle.np_command_sample.proofs.report.tally_of.Given as goal
use Rattle.np_command_sample.specs.Prelude.{counted, counts_of}
use Rattle.np_report.specs.Prelude.{row_count}
use Rattle.np_routes.specs.Prelude.{cluster_rows, cluster_table}
use Rattle.std.specs.Prelude.{None}
use Rattle.np_command.specs.Prelude.{list_steps}

-- what was counted and the rows that are still to come are all rows, and what is due for them is what may still be counted
abbrev pub invariant-loop-rows : goal.invariant-loop-rows
invariant-loop-rows g l = record {
  counts : counted l.tally l.rows.rows ≡ counts_of l.fn.folded;
  few : row_count l.tally + length l.rows.rows ≤ length (cluster_rows (cluster_table l.fn.folded None));
  least : l.fn.steps ≤ l.steps;
  most : l.steps + l.rows.due ≤ l.fn.steps + list_steps l.fn.folded;
}

abbrev pub decreases-loop-rows : goal.decreases-loop-rows
decreases-loop-rows g l = length l.rows.rows
