use Rattle.np_statements.proofs.FormLemmas.{named-unknown, unknown-named}
use Rattle.np_statements.proofs.laws.unknown_names_are_of_no_workload.Goals as goal

pub returns : goal.returns
returns c = λ lists name. (unknown-named lists name, named-unknown lists name)
