use Rattle.std.proofs.Common.{◌≡◌, ◌++◌, ◌+◌, ◌-◌, ◌≤◌, reverse}
use Rattle.np_fold.specs.Prelude.{folding_of}
use Rattle.np_table.proofs.all_rows.Rows.next.Given as goal
use Rattle.np_kinds.specs.Prelude.{IsKindReach}
use Rattle.np_table.specs.Prelude.{IsUnderWay, due_from, estate_table, rows_from}

-- the same rows are still to come, whatever of them was made, and what was looked at is due no more
abbrev pub invariant-loop-folded : goal.invariant-loop-folded
invariant-loop-folded g l = record {
  to_come : reverse l.self-inside.ready.items ++ rows_from (estate_table l.self-inside.sides.lists) l.self-inside.place ≡ l.fn.self.rows;
  under_way : IsUnderWay l.self-inside.sides.lists l.self-inside.place l.self-inside.end l.self-inside.cache;
  lists : l.folded ≡ l.self-inside.sides.lists;
  reach : IsKindReach l.self-inside.sides.lists l.self-inside.reach;
  known : l.self-inside.known ≡ l.self-inside.sides.lists;
  counted : l.steps + due_from l.self-inside.sides.lists (folding_of l.self-inside.sides.lists) l.self-inside.place l.self-inside.cache ≤ l.fn.steps + l.fn.self.due;
  least : l.fn.steps ≤ l.steps;
}

abbrev pub decreases-loop-folded : goal.decreases-loop-folded
decreases-loop-folded g l = l.self-inside.end - l.self-inside.place
