use Rattle.np_table.proofs.SaidLemmas.{are_same_conns-ports, pair_rows-one_row, pair_rows-unmarked}
use Rattle.np_table.proofs.laws.one_row_where_the_same_ports_pass.Goals as goal

pub returns-clause-test : goal.returns-clause-test
returns-clause-test c = are_same_conns-ports

pub returns-clause-unmarked : goal.returns-clause-unmarked
returns-clause-unmarked c = pair_rows-unmarked

pub returns-clause-one : goal.returns-clause-one
returns-clause-one c = pair_rows-one_row
