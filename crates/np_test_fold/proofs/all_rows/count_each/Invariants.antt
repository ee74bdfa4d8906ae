use Rattle.std.proofs.Common.{◌+◌, ◌≤◌}
use Rattle.np_test_fold.proofs.all_rows.count_each.Given as goal
use Rattle.np_test_fold.specs.Rules.{due_for_all}

-- what is due for the rows that are still to come is what may still be counted
abbrev pub invariant-loop-call : goal.invariant-loop-call
invariant-loop-call g l = record {
  least : l.fn.steps ≤ l.steps;
  most : l.steps + l.rows.due ≤ l.fn.steps + due_for_all l.fn.folded;
}
