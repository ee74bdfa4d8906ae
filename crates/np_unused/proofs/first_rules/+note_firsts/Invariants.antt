use Rattle.std.proofs.Common.{length}
use Rattle.np_unused.proofs.first_rules.+note_firsts.Given as goal

abbrev pub decreases-note_firsts : goal.decreases-note_firsts
decreases-note_firsts g l = length l.rules.now
