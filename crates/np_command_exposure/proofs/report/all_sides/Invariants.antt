use Rattle.std.proofs.Common.{◌≡◌, flat_map}
use Rattle.std.specs.List.{range_with_len}
use Rattle.np_command_exposure.proofs.report.all_sides.Given as goal
use Rattle.np_command_exposure.specs.Report.{both_sides}

abbrev pub invariant-loop-workload : goal.invariant-loop-workload
invariant-loop-workload l = l.sides ≡ flat_map both_sides (range_with_len 0 l.workload)
