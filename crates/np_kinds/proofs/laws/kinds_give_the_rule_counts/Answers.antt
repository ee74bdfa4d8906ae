use Rattle.np_kinds.proofs.KindVerdicts.{SameKindEnd-ends, end_rule_count-same}
use Rattle.np_kinds.proofs.laws.kinds_give_the_rule_counts.Goals as goal

pub returns : goal.returns
returns c lists direction a a' kind = end_rule_count-same lists direction a a' (SameKindEnd-ends lists a a' kind)
