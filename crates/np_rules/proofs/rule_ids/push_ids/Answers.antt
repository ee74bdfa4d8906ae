use Rattle.std.proofs.Common.{append_assoc, refl}
use Rattle.np_rules.proofs.LayerRulesLemmas.{ids_next}
use Rattle.np_rules.proofs.rule_ids.push_ids.Goals as goal

pub loop-place-preserved : goal.loop-place-preserved
loop-place-preserved c = rw (c.in_ok-push.ensures.items, c.loop-place.invariant, ids_next, append_assoc) refl
