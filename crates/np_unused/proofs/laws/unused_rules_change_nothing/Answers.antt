use Rattle.np_unused.proofs.AllowLemmas.{change_nothing}
use Rattle.np_unused.proofs.laws.unused_rules_change_nothing.Goals as goal

pub returns : goal.returns
returns c = change_nothing
