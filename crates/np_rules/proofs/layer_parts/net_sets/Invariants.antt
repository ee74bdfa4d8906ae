use Rattle.std.proofs.Common.{map, take}
use Rattle.np_rules.specs.Prelude.{IsSetOf, Pairwise, net_rule_matches}
use Rattle.np_rules.proofs.layer_parts.net_sets.Given as goal

-- the sets so far are those of the rules so far
abbrev pub invariant-loop-rule : goal.invariant-loop-rule
invariant-loop-rule g l = Pairwise (IsSetOf g.S.Cells.has g.S.Cells.in_space (g.F.FarEnds.contact_at l.far)) l.sets.items
    (map (λ rule. net_rule_matches l.namespace rule.now) (take l.rule-index l.rules))
