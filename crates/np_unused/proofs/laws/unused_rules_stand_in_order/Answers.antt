use Rattle.np_unused.proofs.OrderLemmas.{unused_in_order}
use Rattle.np_unused.proofs.laws.unused_rules_stand_in_order.Goals as goal

pub returns : goal.returns
returns c = unused_in_order
