use Rattle.std.proofs.Common.{◌≡◌, ◌≤◌, ◌<◌, ◌+◌, ◌-◌, ◌*◌}
use Rattle.np_table.proofs.all_rows.pass_over.Given as goal
use Rattle.np_table.specs.Prelude.{estate_table, rows_from}

-- the places so far have no rows
abbrev pub invariant-loop-destination : goal.invariant-loop-destination
invariant-loop-destination l = record {
  rows : rows_from (estate_table l.folded) (l.source * l.count + l.destination) ≡ rows_from (estate_table l.folded) l.place;
  up : l.place ≤ l.source * l.count + l.destination;
  within : l.destination < l.count;
}

abbrev pub decreases-loop-destination : goal.decreases-loop-destination
decreases-loop-destination l = l.count - l.destination
