use Rattle.std.proofs.Common.{◌≡◌, map, take}
use Rattle.np_command_exposure.proofs.report.row_texts.Given as goal
use Rattle.np_command_exposure.specs.steps.Known.{named_row}

abbrev pub invariant-loop-row : goal.invariant-loop-row
invariant-loop-row l = l.texts ≡ map (named_row l.name l.direction) (take l.row-index l.rows)
