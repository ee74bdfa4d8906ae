use Rattle.std.proofs.Common.{take}
use Rattle.np_rules.specs.Prelude.{IsBasePart, Pairwise}
use Rattle.np_rules.proofs.layer_parts.base_parts.Given as goal

-- the parts so far are those of the rules so far
abbrev pub invariant-loop-rule : goal.invariant-loop-rule
invariant-loop-rule g l = Pairwise (IsBasePart g.S.Cells.has g.S.Cells.in_space (g.F.FarEnds.contact_at l.far)) l.parts.items (take l.rule-index l.rules)
