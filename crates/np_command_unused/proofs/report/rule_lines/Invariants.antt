use Rattle.std.proofs.Common.{◌≡◌, flat_map, string_bytes, take}
use Rattle.np_command_unused.proofs.report.rule_lines.Given as goal
use Rattle.np_command_unused.specs.Report.{rule_line}

abbrev pub invariant-loop-rule : goal.invariant-loop-rule
invariant-loop-rule l = string_bytes l.lines ≡ flat_map (rule_line l.estate) (take l.rule-index l.rules)
