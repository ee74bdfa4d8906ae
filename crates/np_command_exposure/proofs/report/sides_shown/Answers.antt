use Rattle.std.proofs.Common.{rules}
use Rattle.np_command_exposure.proofs.ExposureLemmas.{sides-there}
use Rattle.np_command_exposure.proofs.report.sides_shown.Goals as goal

pub returns-in_ok-all_sides-in-None-clause-there : goal.returns-in_ok-all_sides-in-None-clause-there
returns-in_ok-all_sides-in-None-clause-there c =
    sides-there c.args.folded.now c.count.result c.in_ok-all_sides-in-None.field-0 (search rules) (search rules)
