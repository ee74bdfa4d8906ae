use Rattle.std.proofs.Common.{[]}
use Rattle.np_rules.specs.Prelude.{IsBasePart}
use Rattle.np_rules.proofs.PairwiseLemmas.{Pairwise-next}
use Rattle.np_rules.proofs.layer_parts.base_parts.Goals as goal

pub loop-rule-preserved : goal.loop-rule-preserved
loop-rule-preserved g c = Pairwise-next (IsBasePart g.S.Cells.has g.S.Cells.in_space (g.F.FarEnds.contact_at c.args.far.now)) _ [] c.args.rules.now c.loop-rule.rule-index _ c.rule-item.result _
    c.loop-rule-test.true c.rule-item.is c.in_ok-push.ensures.items c.loop-rule.invariant (record { allow = c.is_allow.ensures; members = c.in_ok-set.ensures })
