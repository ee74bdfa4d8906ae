use Rattle.std.proofs.Common.{◌≡◌, map, take}
use Rattle.np_command_exposure.proofs.known_rows.peer_rows.Given as goal
use Rattle.np_command_exposure.specs.steps.Known.{peer_row}

abbrev pub invariant-loop-row : goal.invariant-loop-row
invariant-loop-row l = l.made ≡ map peer_row (take l.row-index l.rows)
