use Rattle.std.proofs.Common.{drop, flat_map}
use Rattle.np_command.proofs.LeftLemmas.{HasLeft}
use Rattle.np_command_explain.proofs.report.write_shown.Given as goal
use Rattle.np_command_explain.specs.Prelude.{explain_text, shown_text}

-- what is held and the explanations that are left are what is left of the text
abbrev pub invariant-loop-one : goal.invariant-loop-one
invariant-loop-one g l =
    HasLeft (g.O.Sink.taken l.fn.out) (g.O.Sink.taken l.out) (g.O.Sink.faults l.fn.out) (g.O.Sink.faults l.out)
    (explain_text l.from l.to l.shown) l.gathered (flat_map (shown_text l.from l.to) (drop l.one-index l.shown))
