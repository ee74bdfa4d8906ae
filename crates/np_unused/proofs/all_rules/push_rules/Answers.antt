use Rattle.np_unused.proofs.PushLemmas.{rule_more}
use Rattle.np_unused.proofs.all_rules.push_rules.Goals as goal

pub loop-place-preserved : goal.loop-place-preserved
loop-place-preserved c = rule_more c.args.tier c.args.policy c.args.direction c.loop-place.place c.args.rules.now c.loop-place.rules c.push.new.self c.in_ok-push.ensures.ok c.loop-place.invariant
