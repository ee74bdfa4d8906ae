use Rattle.np_kinds.proofs.PairLemmas.{pair_allows-kinds}
use Rattle.np_table.proofs.laws.kinds_give_the_pairs.Goals as goal

pub returns : goal.returns
returns c = pair_allows-kinds
