use Rattle.std.proofs.Common.{ap, map, ◌∙◌}
use Rattle.serde_json.specs.View.{view}
use Rattle.np_sample.specs.Objects as spec
use Rattle.np_sample.proofs.PushLemmas.{pushed}
use Rattle.np_sample.proofs.cluster.add_pods.Goals as goal

pub loop-number-preserved : goal.loop-number-preserved
loop-number-preserved c =
    ap (map view) c.in_ok-push.ensures.items ∙ pushed spec.sample_pod _ _ _ _ c.loop-number.invariant c.in_ok-pod.ensures
