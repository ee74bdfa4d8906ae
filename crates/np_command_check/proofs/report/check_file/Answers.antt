use Rattle.std.proofs.Common.{refl}
use Rattle.np_command.specs.Prelude.{sunk}
use Rattle.np_command_check.proofs.FoundLemmas.{wrote-unfound}
use Rattle.np_command_check.proofs.report.check_file.Goals as goal

pub returns-in-Err-first_broken-clause-wrote : goal.returns-in-Err-first_broken-clause-wrote
returns-in-Err-first_broken-clause-wrote g c =
    rw c.end_failure.ensures (wrote-unfound (sunk g.O.Sink.taken g.O.Sink.faults c.args.out.now c.args.out.now) c.args.bytes.now c.args.folded.now c.in-Ok.statements c.in-Err-first_broken.fault
    c.in-Ok.ensures.read c.in-Err-first_broken.ensures.first (record { taken = refl; faults = refl }))
