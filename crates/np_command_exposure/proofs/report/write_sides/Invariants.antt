use Rattle.std.proofs.Common.{◌≡◌, drop, false, flat_map}
use Rattle.np_command.proofs.LeftLemmas.{HasLeft}
use Rattle.np_command_exposure.proofs.report.write_sides.Given as goal
use Rattle.np_command_exposure.specs.Report.{side_rows}
use Rattle.np_report.specs.Prelude.{text_to_come}

-- what is held and the rows of the sides that are left are what is left of the text; what is known is of the same estate
abbrev pub invariant-loop-side : goal.invariant-loop-side
invariant-loop-side g l = record {
  left : HasLeft (g.O.Sink.taken l.fn.out) (g.O.Sink.taken l.out) (g.O.Sink.faults l.fn.out) (g.O.Sink.faults l.out)
      (text_to_come g.F.Form.bytes false (flat_map (side_rows l.fn.folded) l.fn.sides))
      l.gathered
      (text_to_come g.F.Form.bytes l.has_rows (flat_map (side_rows l.folded) (drop l.side-index l.sides)));
  known : l.known ≡ l.folded;
}
