use Rattle.np_unused.proofs.LawLemmas.{unused_rules_of}
use Rattle.np_test_commands.proofs.unused.unused_text.Goals as goal

pub rules_text-requires : goal.rules_text-requires
rules_text-requires c = rw (c.estate.ensures.value, c.items.ensures, c.in_ok-rules.ensures) (unused_rules_of c.args.folded.now)
