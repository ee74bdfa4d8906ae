use Rattle.np_names.proofs.ApartLemmas.{names-apart}
use Rattle.np_names.proofs.laws.names_are_apart.Goals as goal

pub returns : goal.returns
returns c = names-apart
