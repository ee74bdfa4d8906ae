use Rattle.std.proofs.Common.{[], subst, sym}
use Rattle.np_rules.specs.Prelude.{IsSetOf, net_rule_matches}
use Rattle.np_rules.proofs.PairwiseLemmas.{Pairwise-next-map}
use Rattle.np_rules.proofs.layer_parts.net_sets.Goals as goal

pub loop-rule-preserved : goal.loop-rule-preserved
loop-rule-preserved g c = Pairwise-next-map (IsSetOf g.S.Cells.has g.S.Cells.in_space (g.F.FarEnds.contact_at c.args.far.now))
    (λ rule. net_rule_matches c.args.namespace.now rule.now) _ [] c.args.rules.now c.loop-rule.rule-index _ c.rule-item.result _ c.loop-rule-test.true c.rule-item.is c.in_ok-push.ensures.items
    c.loop-rule.invariant (subst (λ set. IsSetOf g.S.Cells.has g.S.Cells.in_space (g.F.FarEnds.contact_at c.args.far.now) set (net_rule_matches c.args.namespace.now c.rule-item.result.now))
    (sym c.share.ensures) c.in_ok-set.ensures)
