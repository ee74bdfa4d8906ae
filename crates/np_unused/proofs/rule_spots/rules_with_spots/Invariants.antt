use Rattle.std.proofs.Common.{◌≡◌, true, All, take}
use Rattle.np_unused.specs.Prelude.{first_at, first_rule}
use Rattle.np_unused.proofs.rule_spots.rules_with_spots.Given as goal

-- the parts so far
abbrev pub invariant-loop-place : goal.invariant-loop-place
invariant-loop-place g l = record {
  some : All (λ one. (spot : g.row.S-Spot.Denot) × (g.S.Cells.in_space spot ≡ true) × (g.S.Cells.has one.set.now spot ≡ true)) l.made.items;
  first : (spot : g.row.S-Spot.Denot) → first_rule (λ set. g.S.Cells.has set spot) l.made.items ≡ first_at (λ part. g.S.Cells.has (g.P.HasSet.set_of part) spot) (take l.place l.parts) l.ids;
}
