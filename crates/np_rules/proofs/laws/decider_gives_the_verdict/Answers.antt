use Rattle.np_rules.proofs.DeciderLemmas.{decider_says}
use Rattle.np_rules.proofs.laws.decider_gives_the_verdict.Goals as goal

pub returns : goal.returns
returns c = decider_says
