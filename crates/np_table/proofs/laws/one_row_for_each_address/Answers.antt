use Rattle.np_table.proofs.AddressRowLemmas.{one_row-pods, one_row-table}
use Rattle.np_table.proofs.laws.one_row_for_each_address.Goals as goal

pub returns-clause-table : goal.returns-clause-table
returns-clause-table c = one_row-table

pub returns-clause-pods : goal.returns-clause-pods
returns-clause-pods c = one_row-pods
