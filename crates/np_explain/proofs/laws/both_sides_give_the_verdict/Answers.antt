use Rattle.np_explain.proofs.OneListLemmas.{both_say}
use Rattle.np_explain.proofs.laws.both_sides_give_the_verdict.Goals as goal

pub returns : goal.returns
returns c = both_say
