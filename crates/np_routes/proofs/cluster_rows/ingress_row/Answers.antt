use Rattle.np_routes.proofs.IngressRowLemmas.{ingress_row-is, ingress_row-none}
use Rattle.np_routes.proofs.cluster_rows.ingress_row.Goals as goal

pub returns-then-is_empty-clause-row : goal.returns-then-is_empty-clause-row
returns-then-is_empty-clause-row g c =
    ingress_row-none c.args.routes.now.lists c.args.routes.now.controller c.args.workload c.in_ok-conns.conns c.in_ok-conns.ensures.set c.if-is_empty.ensures.well c.if-is_empty.ensures.answer

pub returns-clause-row : goal.returns-clause-row
returns-clause-row g c =
    ingress_row-is c.args.routes.now.lists c.args.routes.now.controller c.args.workload c.in_ok-conns.conns c.in_ok-conns.ensures.set c.if-is_empty.ensures.answer
