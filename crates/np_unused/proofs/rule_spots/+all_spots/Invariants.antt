use Rattle.std.proofs.Common.{length}
use Rattle.np_unused.proofs.rule_spots.+all_spots.Given as goal

abbrev pub decreases-all_spots : goal.decreases-all_spots
decreases-all_spots g l = length l.rules.now
