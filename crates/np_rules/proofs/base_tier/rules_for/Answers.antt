use Rattle.std.proofs.Common.{sym, ◌∙◌}
use Rattle.np_rules.proofs.BaseTierLemmas.{rules_selected}
use Rattle.np_rules.specs.Prelude.{pod_view}
use Rattle.np_rules.proofs.base_tier.rules_for.Goals as goal

pub returns-then-subject_selects : goal.returns-then-subject_selects
returns-then-subject_selects c = c.base_rules_of.ensures ∙ sym (rules_selected c.args.policy.now c.args.direction (pod_view c.args.pod.now) c.if-subject_selects.ensures)
