use Rattle.np_kinds.proofs.KindVerdicts.{SameKindEnd-ends, got-same, sent-same}
use Rattle.np_kinds.proofs.laws.kinds_give_the_deciders.Goals as goal

pub returns-clause-source : goal.returns-clause-source
returns-clause-source c lists family spot a a' b b' first second = sent-same lists family spot a a' b b' (SameKindEnd-ends lists a a' first) (SameKindEnd-ends lists b b' second)

pub returns-clause-destination : goal.returns-clause-destination
returns-clause-destination c lists family spot a a' b b' first second = got-same lists family spot a a' b b' (SameKindEnd-ends lists a a' first) (SameKindEnd-ends lists b b' second)
