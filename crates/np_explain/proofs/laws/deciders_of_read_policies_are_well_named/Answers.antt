use Rattle.np_explain.proofs.NamedLemmas.{decider-well}
use Rattle.np_explain.proofs.laws.deciders_of_read_policies_are_well_named.Goals as goal

pub returns : goal.returns
returns c = decider-well
