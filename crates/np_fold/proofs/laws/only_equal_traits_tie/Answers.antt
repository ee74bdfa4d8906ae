use Rattle.np_fold.proofs.OrderLemmas.{ties-equal}
use Rattle.np_fold.proofs.laws.only_equal_traits_tie.Goals as goal

pub returns : goal.returns
returns c = ties-equal
