use Rattle.np_classes.proofs.Relations.{firsts_agree, members_agree, class_of_agree}
use Rattle.np_classes.proofs.laws.agreeing_relations_have_the_same_classes.Goals as goal

pub returns-clause-firsts : goal.returns-clause-firsts
returns-clause-firsts c = firsts_agree

pub returns-clause-members : goal.returns-clause-members
returns-clause-members c alike other count place agree within = members_agree alike other count agree place within

pub returns-clause-number : goal.returns-clause-number
returns-clause-number c alike other count place agree within = class_of_agree alike other count agree place within
