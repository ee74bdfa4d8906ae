use Rattle.np_statements.proofs.FormLemmas.{names-addresses, names-pods}
use Rattle.np_statements.proofs.laws.ends_are_those_of_their_forms.Goals as goal

pub returns : goal.returns
returns c = record { pods = names-pods; addresses = names-addresses }
