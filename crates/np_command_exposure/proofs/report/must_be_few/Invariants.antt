use Rattle.std.proofs.Common.{◌≡◌, drop}
use Rattle.np_command_exposure.proofs.report.must_be_few.Given as goal
use Rattle.np_command_exposure.specs.Report.{first_fault}

-- the first fault is that of the sides that are left; what is known is of the same estate
abbrev pub invariant-loop-side : goal.invariant-loop-side
invariant-loop-side l = record {
  left : first_fault l.folded (drop l.side-index l.sides) ≡ first_fault l.fn.folded l.fn.sides;
  known : l.light ≡ l.folded;
}
