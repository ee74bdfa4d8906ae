use Rattle.np_meaning.proofs.NumberingLemmas.{numbered}
use Rattle.np_meaning.proofs.laws.numbers_follow_places.Goals as goal

pub returns : goal.returns
returns c = λ wishes first second order within same. numbered wishes first second order within same
