use Rattle.std.proofs.Common.{length}
use Rattle.np_rules.proofs.net_union.+joined_rules.Given as goal

abbrev pub decreases-joined_rules : goal.decreases-joined_rules
decreases-joined_rules g l = length l.rules.now
