use Rattle.np_classes.proofs.Relations.{class_within, first_at, class_of_first}
use Rattle.np_classes.proofs.laws.first_places_stand_for_classes.Goals as goal

pub returns-clause-number : goal.returns-clause-number
returns-clause-number c alike count place lawful within = class_within alike count lawful place within

pub returns-clause-first : goal.returns-clause-first
returns-clause-first c alike count place first lawful within is = first_at alike count lawful place first within is

pub returns-clause-own : goal.returns-clause-own
returns-clause-own c alike count number first lawful is = class_of_first alike count lawful number first is
