use Rattle.std.proofs.Common.{◌≡◌, ◌≤◌, ◌+◌, ◌-◌, ◌++◌, []}
use Rattle.np_routes.proofs.cluster_rows.ClusterRows.next.Given as goal
use Rattle.np_routes.specs.Prelude.{IsAtWorkload, cluster_table, due_left, ingress_due, ingress_rows_from, rows_left}

-- those of pairs and addresses have ended, the same rows are still to come, and what was looked at is due no more
abbrev pub invariant-loop-self : goal.invariant-loop-self
invariant-loop-self g l = record {
  ended : rows_left l.self-inside.rows ≡ [];
  to_come : rows_left l.self-inside.rows ++ ingress_rows_from (cluster_table l.self-inside.routes.lists l.self-inside.routes.controller) l.self-inside.workload ≡ l.fn.self.rows;
  at_workload : IsAtWorkload l.self-inside.routes l.self-inside.workload l.self-inside.count;
  counted : l.steps + (due_left l.self-inside.rows + ingress_due l.self-inside.routes.lists l.self-inside.workload) ≤ l.fn.steps + l.fn.self.due;
  least : l.fn.steps ≤ l.steps;
}

abbrev pub decreases-loop-self : goal.decreases-loop-self
decreases-loop-self g l = l.self-inside.count - l.self-inside.workload
