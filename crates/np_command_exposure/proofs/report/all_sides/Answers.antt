use Rattle.std.proofs.Common.{rules}
use Rattle.np_command_exposure.proofs.ExposureLemmas.{sides-next}
use Rattle.np_command_exposure.proofs.report.all_sides.Goals as goal

pub loop-workload-preserved : goal.loop-workload-preserved
loop-workload-preserved c = sides-next _ _ _ c.loop-workload.invariant (search rules)
