use Rattle.std.proofs.Common.{length}
use Rattle.np_tiers.proofs.run.+run_of.Given as goal

abbrev pub decreases-run_of : goal.decreases-run_of
decreases-run_of g l = length l.parts.now
