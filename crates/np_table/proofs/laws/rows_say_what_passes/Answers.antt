use Rattle.np_table.proofs.SaidLemmas.{allows_in-pair_rows, allows_in-pods, rows_between-all}
use Rattle.np_table.proofs.laws.rows_say_what_passes.Goals as goal

pub returns-clause-pair : goal.returns-clause-pair
returns-clause-pair c = allows_in-pair_rows

pub returns-clause-among_all : goal.returns-clause-among_all
returns-clause-among_all c = rows_between-all

pub returns-clause-pods : goal.returns-clause-pods
returns-clause-pods c = allows_in-pods
