use Rattle.np_exposure.proofs.SettledLemmas.{all-next}
use Rattle.np_exposure.specs.Prelude.{labels_at}
use Rattle.np_labels.specs.Prelude.{meets_requirement}
use Rattle.np_exposure.proofs.known.selector_is_met.Goals as goal

pub loop-requirement-preserved : goal.loop-requirement-preserved
loop-requirement-preserved c =
    all-next c.args.state.now (λ requirement s. meets_requirement requirement (labels_at c.args.side s))
    c.items-requirement-items.result.now c.loop-requirement.requirement-index c.requirement-item.result c.loop-requirement-test.true c.requirement-item.is
    c.loop-requirement.answer c.requirement_is_met.result c.both-answer.result c.both-answer.ensures c.loop-requirement.invariant c.requirement_is_met.ensures
