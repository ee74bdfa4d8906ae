use Rattle.std.proofs.Common.{ℕ, ap, not, ◌==◌, ◌∙◌}
use Rattle.np_rules.proofs.PolicyRulesLemmas.{keeps_as, keeps_rules}
use Rattle.np_rules.proofs.pod_rules.PodRules.rules.Goals as goal

pub returns : goal.returns
returns c = keeps_rules (keeps_as c.self.invariant c.self.view_is) _ _ _
    (rw c.deref.ensures.value at c.in_ok-rules_of.ensures) (ap not (c.is_empty.ensures ∙ ap (λ (n : ℕ). n == 0) c.self.inside.net.ok.0)) (rw c.deref-2.ensures.value at c.in_ok-rules_of-2.ensures)
