use Rattle.np_explain.proofs.OneListLemmas.{parts_say}
use Rattle.np_explain.proofs.laws.parts_give_the_verdict.Goals as goal

pub returns : goal.returns
returns c = parts_say
