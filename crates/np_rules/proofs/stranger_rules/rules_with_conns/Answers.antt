use Rattle.std.proofs.Common.{refl, sym, subst, ap, ◌∙◌}
use Rattle.std.specs.List.{AllByRecursion}
use Rattle.np_conns.specs.Prelude.{Conns, has_spot}
use Rattle.np_rules.specs.Prelude.{HasPorts, RuleConns, end_view, rule_of}
use Rattle.np_rules.proofs.StrangerLemmas.{all-push, has_ports, images-next}
use Rattle.np_rules.proofs.stranger_rules.rules_with_conns.Goals as goal

pub loop-rule-preserved : goal.loop-rule-preserved
loop-rule-preserved c =
    let direction = c.args.ends.now.direction in
    let near = end_view c.args.ends.now.near in
    let next : RuleConns = record { rule = c.rule-item.result; conns = c.share_with.new.self } in
    record {
      rules = images-next rule_of (λ rule. rule.now) c.loop-rule.made.items c.push.new.self.items next c.args.rules.now c.loop-rule.rule-index c.rule-item.result
          c.loop-rule-test.true c.rule-item.is c.in_ok-push.ensures.items refl c.loop-rule.invariant.rules;
      conns = subst (AllByRecursion (HasPorts direction near)) (sym c.in_ok-push.ensures.items)
          (all-push (HasPorts direction near) c.loop-rule.made.items next c.loop-rule.invariant.conns
          (has_ports direction near next
          (λ a spot within. ap (λ (set : Conns). has_spot set spot) c.share_with.ensures ∙ (rw c.items.ensures at c.in_ok-conns.ensures) a spot within)));
    }
