use Rattle.std.proofs.Common.{◌≡◌, ◌-◌, length}
use Rattle.std.specs.Prelude.{find}
use Rattle.std.specs.List.{range_with_len}
use Rattle.np_owners.specs.Prelude.{first_cycle, owns_itself}
use Rattle.np_owners.proofs.chains.Chains.first_cycle.Given as goal

-- the first place that owns itself is the first of those from here on
abbrev pub invariant-loop-place : goal.invariant-loop-place
invariant-loop-place l = find (owns_itself l.self) (range_with_len l.place (length l.self - l.place)) ≡ first_cycle l.self
