use Rattle.std.proofs.Common.{List, ◌&&◌, ap₂, subst, sym, ◌∙◌}
use Rattle.np_explain.proofs.ExplanationLemmas.{explanation-made, explanation-right}
use Rattle.np_explain.proofs.explanation.explain_sides.Goals as goal
use Rattle.np_explain.specs.Prelude.{IsRightFor, Part, some_allows}

pub returns-clause-made : goal.returns-clause-made
returns-clause-made c =
    explanation-made c.args.estate.now c.args.flow.now.source c.args.flow.now.destination c.args.flow.now.family
    c.in_ok-egress.egress c.in_ok-ingress.ingress c.in_ok-conns.conns
    c.in_ok-egress.ensures.list c.in_ok-ingress.ensures.list c.in_ok-egress.ensures.parts c.in_ok-ingress.ensures.parts
    c.in_ok-conns.ensures.well (λ spot inside. c.in_ok-conns.ensures.members spot inside
    ∙ ap₂ (λ (sent received : List Part). some_allows sent spot && some_allows received spot) c.items.ensures c.items-2.ensures)

pub returns-clause-right : goal.returns-clause-right
returns-clause-right c =
    subst (IsRightFor c.args.estate.now c.args.flow.now.source c.args.flow.now.destination c.args.flow.now.family)
    (sym (returns-clause-made c))
    (explanation-right c.args.estate.now c.args.flow.now.source c.args.flow.now.destination c.args.flow.now.family)
