use Rattle.np_objects.proofs.OwnerLemmas.{owner_of-first, owner_of-none, All-passes}
use Rattle.np_objects.proofs.laws.first_counting_reference_names_owner.Goals as goal

pub returns-clause-first : goal.returns-clause-first
returns-clause-first c = owner_of-first

pub returns-clause-none : goal.returns-clause-none
returns-clause-none c = λ dependent references. (All-passes dependent references, owner_of-none dependent references)
