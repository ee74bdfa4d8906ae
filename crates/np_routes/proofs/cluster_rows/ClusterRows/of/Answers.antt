use Rattle.np_routes.proofs.IngressRowLemmas.{cluster_rows-start, ingress_due-start}
use Rattle.np_routes.proofs.cluster_rows.ClusterRows.of.Goals as goal

pub returns-clause-rows : goal.returns-clause-rows
returns-clause-rows c = cluster_rows-start c.args.folded.now c.in_ok-routes.routes.lists c.args.controller c.in_ok-routes.routes.controller c.new-rows.result.rows c.in_ok-routes.ensures.lists
    c.in_ok-routes.ensures.controller c.new-rows.ensures.rows

pub returns-clause-due : goal.returns-clause-due
returns-clause-due c = ingress_due-start c.args.folded.now c.in_ok-routes.routes.lists c.new-rows.result.due c.in_ok-routes.ensures.lists c.new-rows.ensures.due
