use Rattle.std.proofs.Common.{length}
use Rattle.np_rules.proofs.port_sets.+joined_by_halves.Given as goal

abbrev pub decreases-joined_by_halves : goal.decreases-joined_by_halves
decreases-joined_by_halves g l = length l.entries.now
