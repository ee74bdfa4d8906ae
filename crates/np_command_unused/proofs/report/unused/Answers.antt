use Rattle.np_unused.proofs.LawLemmas.{unused_rules_of}
use Rattle.np_command_unused.proofs.report.unused.Goals as goal

pub rule_lines-requires : goal.rule_lines-requires
rule_lines-requires g c = rw (c.estate.ensures.value, c.items.ensures, c.in_ok-rules.ensures) (unused_rules_of c.args.folded.now)
