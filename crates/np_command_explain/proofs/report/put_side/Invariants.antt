use Rattle.std.proofs.Common.{◌++◌, drop, flat_map}
use Rattle.np_command.proofs.LeftLemmas.{HasLeft}
use Rattle.np_command_explain.proofs.report.put_side.Given as goal
use Rattle.np_command_explain.specs.Prelude.{part_line, parts_at, side_text}

-- what is held and the lines of the parts that are left are what is left of the text
abbrev pub invariant-loop-part : goal.invariant-loop-part
invariant-loop-part g l =
    HasLeft (g.O.Sink.taken l.fn.out) (g.O.Sink.taken l.out) (g.O.Sink.faults l.fn.out) (g.O.Sink.faults l.out)
    (l.fn.gathered ++ side_text l.direction l.name l.one.mark (parts_at l.direction l.one.made)) l.gathered (flat_map (part_line l.direction) (drop l.part-index l.parts))
