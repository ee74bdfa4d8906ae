use Rattle.np_kinds.proofs.KindVerdicts.{SameKindEnd-ends, packet-same}
use Rattle.np_kinds.proofs.laws.kinds_give_the_verdict.Goals as goal

pub returns : goal.returns
returns c lists family spot a a' b b' first second = packet-same lists family spot a a' b b' (SameKindEnd-ends lists a a' first) (SameKindEnd-ends lists b b' second)
