use Rattle.std.proofs.Common.{sym, ap, ◌∙◌}
use Rattle.np_rules.specs.Prelude.{pod_end}
use Rattle.np_flatten.proofs.PolicyFacts.{policy-is}
use Rattle.np_flatten.proofs.flat.Flat.policy.Goals as goal
use Rattle.np_flatten.specs.Prelude.{EstateLists, egress_rules, flat_policy, ingress_rules}

pub returns-clause-policy : goal.returns-clause-policy
returns-clause-policy c =
    let after = c.in_ok-egress.ensures.same in
    let same = after ∙ c.in_ok-ingress.ensures.same in
    policy-is c.egress_rules.new.self c.folded.result.now c.args.group c.first.result
    (pod_end c.first_pod-pod.result.now) c.in_ok-copy.field-0 c.in_ok-flat_name.field-0 c.keys.result.now c.in_ok-selector_of.field-0 c.in_ok-ingress.ingress c.in_ok-egress.egress
    c.folded.ensures c.first.ensures.value c.first_pod-pod.ensures c.in_ok-copy.ensures c.in_ok-flat_name.ensures c.keys.ensures c.in_ok-selector_of.ensures
    (c.in_ok-ingress.ensures.rules ∙ ap (λ (l : EstateLists). ingress_rules l c.args.group) (sym same))
    (c.in_ok-egress.ensures.rules ∙ ap (λ (l : EstateLists). egress_rules l c.args.group) (sym after))
    ∙ ap (λ (l : EstateLists). flat_policy l c.args.group) same
