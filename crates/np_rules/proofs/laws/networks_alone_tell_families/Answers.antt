use Rattle.np_rules.proofs.FamilyLemmas.{family_other}
use Rattle.np_rules.proofs.laws.networks_alone_tell_families.Goals as goal

pub returns : goal.returns
returns c = family_other
