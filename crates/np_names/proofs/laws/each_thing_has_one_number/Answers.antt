use Rattle.np_names.proofs.NumberLemmas.{number-of-one, one-of-place}
use Rattle.np_names.proofs.ThingLemmas.{length-all_by_name}
use Rattle.np_names.proofs.laws.each_thing_has_one_number.Goals as goal

pub returns-clause-count : goal.returns-clause-count
returns-clause-count c = length-all_by_name

pub returns-clause-of_place : goal.returns-clause-of_place
returns-clause-of_place c = one-of-place

pub returns-clause-of_number : goal.returns-clause-of_number
returns-clause-of_number c = number-of-one
