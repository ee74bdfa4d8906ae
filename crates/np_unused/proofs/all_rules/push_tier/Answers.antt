use Rattle.np_unused.proofs.PushLemmas.{policy_more}
use Rattle.np_unused.proofs.all_rules.push_tier.Goals as goal

pub loop-policy-preserved : goal.loop-policy-preserved
loop-policy-preserved c = policy_more c.args.estate.now c.args.tier c.loop-policy.policy c.args.rules.now c.loop-policy.rules c.push_rules.new.rules c.push_rules-in-loop-policy.new.rules
    c.in_ok-push_rules.ensures c.in_ok-push_rules-2.ensures c.loop-policy.invariant
