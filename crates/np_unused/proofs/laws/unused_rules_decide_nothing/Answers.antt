use Rattle.np_unused.proofs.LawLemmas.{decide_nothing}
use Rattle.np_unused.proofs.laws.unused_rules_decide_nothing.Goals as goal

pub returns : goal.returns
returns c = decide_nothing
