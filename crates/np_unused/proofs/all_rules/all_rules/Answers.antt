use Rattle.np_unused.proofs.PushLemmas.{all_made}
use Rattle.np_unused.proofs.all_rules.all_rules.Goals as goal

pub returns : goal.returns
returns c = all_made c.args.estate.now c.admin_policies.result.now c.net_policies.result.now c.new-rules.result c.push_tier.new.rules c.push_tier-2.new.rules c.push_tier-3.new.rules
    c.admin_policies.ensures.value c.net_policies.ensures.value c.new-rules.ensures c.in_ok-push_tier.ensures c.in_ok-push_tier-2.ensures c.in_ok-push_tier-3.ensures
