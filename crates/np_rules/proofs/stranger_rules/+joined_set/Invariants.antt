use Rattle.std.proofs.Common.{length}
use Rattle.np_rules.proofs.stranger_rules.+joined_set.Given as goal

abbrev pub decreases-joined_set : goal.decreases-joined_set
decreases-joined_set l = length l.sets.now
