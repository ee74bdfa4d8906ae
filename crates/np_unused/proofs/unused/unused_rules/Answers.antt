use Rattle.std.proofs.Common.{List, ap, ◌∙◌, filter, not}
use Rattle.np_unused.proofs.RuleListLemmas.{unknown_is_unused}
use Rattle.np_unused.proofs.unused.unused_rules.Goals as goal
use Rattle.np_unused.specs.Prelude.{RuleRef, all_rules, is_known_by}

pub returns : goal.returns
returns c =
    c.in_ok-unused.ensures
    ∙ ap (λ (rules : List RuleRef). filter (λ rule. not (is_known_by c.in_ok-ingress.ingress c.in_ok-egress.egress rule)) rules)
    (c.items.ensures ∙ c.in_ok-rules.ensures ∙ ap all_rules c.estate.ensures.value)
    ∙ unknown_is_unused c.args.folded.now c.in_ok-ingress.ingress c.in_ok-egress.egress c.in_ok-ingress.ensures c.in_ok-egress.ensures
