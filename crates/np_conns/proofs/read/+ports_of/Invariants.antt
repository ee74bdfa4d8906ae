use Rattle.std.proofs.Common.{length}
use Rattle.np_conns.proofs.read.+ports_of.Given as goal

abbrev pub decreases-ports_of : goal.decreases-ports_of
decreases-ports_of l = length l.runs.now
