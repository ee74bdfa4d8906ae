use Rattle.std.specs.Option.{option_copied}
use Rattle.np_rules.proofs.BaseTierLemmas.{action_placed}
use Rattle.np_rules.specs.Prelude.{base_places, contact_view, pod_view}
use Rattle.np_rules.proofs.base_tier.base_action.Goals as goal

pub returns : goal.returns
returns c = action_placed c.base_rules_for-rules.result.now (base_places (option_copied c.args.baseline) c.args.direction (pod_view c.args.pod.now))
    (contact_view c.args.contact.now) _ c.base_rules_for-rules.ensures c.first_action.ensures
