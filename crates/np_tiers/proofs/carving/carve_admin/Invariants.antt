use Rattle.np_tiers.proofs.FirstMatch.{IsCarvedUpTo}
use Rattle.np_tiers.proofs.Tiers.{admin_tier}
use Rattle.np_tiers.proofs.carving.carve_admin.Given as goal

-- the admin parts from `place` on, and the tiers below, decide the spots that are left
abbrev pub invariant-loop-place : goal.invariant-loop-place
invariant-loop-place g l = IsCarvedUpTo g.S.Cells.has g.S.Cells.IsWell (admin_tier l.layer) (λ mark. Unit {0}) (g.S.Cells.has l.fn.within) l.layer.admin l.place l.left l.entries.items
