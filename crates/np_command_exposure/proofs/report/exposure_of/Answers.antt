use Rattle.std.proofs.Common.{rules}
use Rattle.np_command_exposure.proofs.ExposureLemmas.{few-all, none-refused}
use Rattle.np_command_exposure.proofs.report.exposure_of.Goals as goal
use Rattle.np_command_exposure.specs.Report.{first_fault}

pub write_in-requires-clause-few : goal.write_in-requires-clause-few
write_in-requires-clause-few g c =
    few-all c.args.folded.now c.items-2.result.now (none-refused (first_fault c.args.folded.now c.items-2.result.now) (search rules))
