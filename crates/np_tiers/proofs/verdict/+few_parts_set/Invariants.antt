use Rattle.std.proofs.Common.{length}
use Rattle.np_tiers.proofs.verdict.+few_parts_set.Given as goal

abbrev pub decreases-few_parts_set : goal.decreases-few_parts_set
decreases-few_parts_set g l = length l.parts.now
