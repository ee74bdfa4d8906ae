use Rattle.std.proofs.Common.{◌++◌, List, sym, ap, ◌∙◌}
use Rattle.np_flatten.specs.Prelude.{NetRule}
use Rattle.np_flatten.proofs.PolicyFacts.{on_ok, rule-is}
use Rattle.np_flatten.proofs.flat.Flat.add_rule_from.Goals as goal

pub returns-clause-rules : goal.returns-clause-rules
returns-clause-rules c =
    on_ok c.push.result _ _ (λ is.
    is ∙ ap (λ (all : List NetRule). c.args.rules.now ++ all) (rule-is c.args.self.now c.set_from.new.self c.args.group c.args.sender c.in_ok-set.field-0 c.in-Some.set c.in_ok-rule_of.field-0
    c.in_ok-set.ensures.set c.in-Some.is (sym c.is_nothing.ensures ∙ c.if-is_nothing.false) c.in_ok-set.ensures.same c.in_ok-rule_of.ensures)) c.push.ensures.ok
