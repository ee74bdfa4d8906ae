use Rattle.std.proofs.Common.{◌≡◌}
use Rattle.np_tiers.specs.Prelude.{admin_place}
use Rattle.np_tiers.proofs.FirstMatch.{IsCarvedUpTo}
use Rattle.np_tiers.proofs.Tiers.{net_tier}
use Rattle.np_tiers.proofs.carving.carve_net.Given as goal

-- the sets from `place` on decide the spots that are left
abbrev pub invariant-loop-place : goal.invariant-loop-place
invariant-loop-place g l = IsCarvedUpTo g.S.Cells.has g.S.Cells.IsWell (net_tier l.pass) (λ mark. admin_place mark ≡ l.pass) (g.S.Cells.has l.fn.within) l.sets l.place l.left l.entries.items
