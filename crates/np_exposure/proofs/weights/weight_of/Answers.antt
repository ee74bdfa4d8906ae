use Rattle.np_exposure.proofs.WeightLemmas.{weight-by_sides}
use Rattle.np_exposure.proofs.weights.weight_of.Goals as goal

pub returns : goal.returns
returns c = weight-by_sides c.args.mentions.now c.in_ok-namespaces.namespaces c.in_ok-pods.pods c.saturating_mul.result c.in_ok-namespaces.ensures c.in_ok-pods.ensures c.saturating_mul.ensures
