use Rattle.std.proofs.Common.{List, [], ◌∷◌, ◌++◌, Bool, map, take, filter, sym, ap, ◌∙◌, if◌then◌else◌, append-nil}
use Rattle.std.proofs.lemmas.List.{map-append}
use Rattle.np_rules.specs.Prelude.{AdminRule, admin_rule_reaches, end_view}
use Rattle.np_rules.proofs.FilterLemmas.{filter_image}
use Rattle.np_rules.proofs.rules_toward.admin_rules_toward.Goals as goal
use Rattle.np_rules.proofs.rules_toward.admin_rules_toward.Goals.{then-admin_peers_match+in_ok-push, else-admin_peers_match}

pub loop-rule-preserved : goal.loop-rule-preserved
loop-rule-preserved c =
    let reaches = admin_rule_reaches (end_view c.args.far.now) c.args.family in
    let before : List AdminRule = filter reaches (map (λ rule. rule.now) (take c.loop-rule.rule-index c.args.rules.now)) in
    let more = filter_image (λ rule. rule.now) reaches c.args.rules.now c.loop-rule.rule-index c.rule-item.result c.loop-rule-test.true c.rule-item.is in
    elim c.if-admin_peers_match.branch [
      | then-admin_peers_match+in_ok-push w ↦ rw w.made-is (ap (map (λ rule. rule.now)) w.in_ok-push.ensures.items
          ∙ map-append (λ rule. rule.now) c.loop-rule.made.items (c.rule-item.result ∷ [])
          ∙ ap (λ (rules : List AdminRule). rules ++ c.rule-item.result.now ∷ []) c.loop-rule.invariant
          ∙ sym (more ∙ ap (λ (b : Bool). before ++ (if b then c.rule-item.result.now ∷ [] else [])) (sym (rw c.items.ensures at c.admin_peers_match.ensures) ∙ w.if-admin_peers_match.true)))
      | else-admin_peers_match w ↦ rw w.made-is (c.loop-rule.invariant
          ∙ sym (more ∙ ap (λ (b : Bool). before ++ (if b then c.rule-item.result.now ∷ [] else [])) (sym (rw c.items.ensures at c.admin_peers_match.ensures) ∙ w.if-admin_peers_match.false) ∙ append-nil before))
    ]
