use Rattle.np_table.proofs.SaidLemmas.{pair_rows-alone}
use Rattle.np_table.proofs.laws.no_row_with_itself.Goals as goal

pub returns : goal.returns
returns c = pair_rows-alone
