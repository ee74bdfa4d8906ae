use Rattle.np_routes.proofs.RouteLemmas.{is_routed-leads, is_routed-others}
use Rattle.np_routes.proofs.laws.ingresses_lead_as_the_api_says.Goals as goal

pub returns-clause-tcp : goal.returns-clause-tcp
returns-clause-tcp c = is_routed-leads

pub returns-clause-others : goal.returns-clause-others
returns-clause-others c = is_routed-others
