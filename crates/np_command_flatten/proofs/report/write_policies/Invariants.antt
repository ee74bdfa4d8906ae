use Rattle.std.proofs.Common.{◌≡◌}
use Rattle.np_command_flatten.proofs.FlattenLemmas.{to_come}
use Rattle.np_command.proofs.LeftLemmas.{HasLeft}
use Rattle.np_command_flatten.proofs.report.write_policies.Given as goal
use Rattle.np_command_flatten.specs.Prelude.{flatten_text}

-- what is held and the policies that are still to come are what is left of the text
abbrev pub invariant-loop-group : goal.invariant-loop-group
invariant-loop-group g l = record {
  same : l.flat ≡ l.fn.flat;
  left : HasLeft (g.O.Sink.taken l.fn.out) (g.O.Sink.taken l.out) (g.O.Sink.faults l.fn.out) (g.O.Sink.faults l.out) (flatten_text l.fn.flat) l.gathered (to_come l.fn.flat l.group);
}
