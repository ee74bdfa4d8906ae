use Rattle.std.proofs.Common.{◌≤◌, ◌+◌, ◌++◌, arith, sym, ◌∙◌}
use Rattle.np_routes.proofs.IngressRowLemmas.{due-next, given-none, given-some, row-next, rows-ended, steps-within}
use Rattle.np_routes.proofs.cluster_rows.ClusterRows.next.Goals as goal
use Rattle.np_routes.specs.Prelude.{cluster_table, due_left, ingress_rows_from, rows_left}
use Rattle.np_table.proofs.SetLemmas.{OnErr-from}
use Rattle.np_kinds.specs.Prelude.{IsWorkload, number_of_workloads}

pub returns-in_err-row-2-clause-most : goal.returns-in_err-row-2-clause-most
returns-in_err-row-2-clause-most g c =
    let inside = c.loop-self.self-inside in
    let here : IsWorkload inside.routes.lists inside.workload = omega (arith, c.loop-self.invariant.at_workload.all, c.loop-self-test.true) in
    OnErr-from c.from_residual-in_err-row-2.result _ (steps-within inside.routes.lists inside.routes.controller inside.workload
    (c.args.steps.now + c.args.self.now.due) c.loop-self.steps c.ingress_row.new.steps
    (due_left inside.rows) c.loop-self.invariant.at_workload.controls here c.ingress_row.ensures.most c.loop-self.invariant.counted)

pub overflow_add-self : goal.overflow_add-self
overflow_add-self g c = let few = c.loop-self.invariant.at_workload.fits in omega (arith, few, c.loop-self-test.true)

pub returns-then-is_some-clause-given : goal.returns-then-is_some-clause-given
returns-then-is_some-clause-given g c =
    let inside = c.loop-self.self-inside in
    let here : IsWorkload inside.routes.lists inside.workload = omega (arith, c.loop-self.invariant.at_workload.all, c.loop-self-test.true) in
    given-some c.in_ok-row-2.row c.args.self.now.rows (rows_left inside.rows ++ ingress_rows_from (cluster_table inside.routes.lists inside.routes.controller) (inside.workload + 1))
    (sym c.is_some.ensures ∙ c.if-is_some.true)
    (row-next inside.routes.lists inside.routes.controller inside.workload
    (rows_left inside.rows) c.args.self.now.rows c.in_ok-row-2.row here c.loop-self.invariant.ended c.in_ok-row-2.ensures.row c.loop-self.invariant.to_come)

pub returns-then-is_some-clause-counted : goal.returns-then-is_some-clause-counted
returns-then-is_some-clause-counted g c =
    let inside = c.loop-self.self-inside in
    let here : IsWorkload inside.routes.lists inside.workload = omega (arith, c.loop-self.invariant.at_workload.all, c.loop-self-test.true) in
    due-next inside.routes.lists inside.routes.controller inside.workload (c.args.steps.now + c.args.self.now.due) c.loop-self.steps c.ingress_row.new.steps
    (due_left inside.rows) c.loop-self.invariant.at_workload.controls here c.ingress_row.ensures.most c.loop-self.invariant.counted

pub loop-self-preserved : goal.loop-self-preserved
loop-self-preserved g c =
    let inside = c.loop-self.self-inside in
    let at = c.loop-self.invariant.at_workload in
    let here : IsWorkload inside.routes.lists inside.workload = omega (arith, at.all, c.loop-self-test.true) in
    record {
      ended = c.loop-self.invariant.ended;
      to_come = given-none c.in_ok-row-2.row c.args.self.now.rows (rows_left inside.rows ++ ingress_rows_from (cluster_table inside.routes.lists inside.routes.controller) (inside.workload + 1))
          (sym c.is_some.ensures ∙ c.if-is_some.false)
          (row-next inside.routes.lists inside.routes.controller inside.workload
          (rows_left inside.rows) c.args.self.now.rows c.in_ok-row-2.row here c.loop-self.invariant.ended c.in_ok-row-2.ensures.row c.loop-self.invariant.to_come);
      at_workload = record { all = at.all; within = omega (arith, c.loop-self-test.true); fits = at.fits; controls = at.controls };
      counted = due-next inside.routes.lists inside.routes.controller inside.workload (c.args.steps.now + c.args.self.now.due) c.loop-self.steps c.ingress_row.new.steps
          (due_left inside.rows) at.controls here c.ingress_row.ensures.most c.loop-self.invariant.counted;
      least = omega (arith, c.loop-self.invariant.least, c.ingress_row.ensures.least);
    }

pub returns-clause-given : goal.returns-clause-given
returns-clause-given g c =
    let inside = c.loop-self.self-inside in
    let behind : number_of_workloads inside.routes.lists ≤ inside.workload = omega (arith, c.loop-self.invariant.at_workload.all, c.loop-self-test.false) in
    rows-ended inside.routes.lists inside.routes.controller inside.workload (rows_left inside.rows) c.args.self.now.rows behind c.loop-self.invariant.ended c.loop-self.invariant.to_come
