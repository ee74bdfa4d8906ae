use Rattle.std.proofs.Common.{◌∙◌}
use Rattle.np_exposure.proofs.walk.exposed.Goals as goal

pub returns : goal.returns
returns c = record {
  members = λ spot inside. c.in_ok-conns.ensures.members spot inside ∙ c.in_ok-layer.ensures.verdict spot inside;
  well = c.in_ok-conns.ensures.well;
}
