use Rattle.std.proofs.Common.{length}
use Rattle.np_statements.proofs.all_pods.+joined_conns.Given as goal

abbrev pub decreases-joined_conns : goal.decreases-joined_conns
decreases-joined_conns l = length l.lines.now
