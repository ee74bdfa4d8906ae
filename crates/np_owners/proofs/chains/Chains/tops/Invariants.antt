use Rattle.std.proofs.Common.{◌≡◌, ◌<◌, length, map, All}
use Rattle.std.specs.List.{range_with_len}
use Rattle.np_owners.specs.Prelude.{top}
use Rattle.np_owners.proofs.chains.Chains.tops.Given as goal

-- the tops so far are those of the places so far, and places of the list
abbrev pub invariant-loop-place : goal.invariant-loop-place
invariant-loop-place l = (l.made.items ≡ map (top l.self) (range_with_len 0 l.place)) × All (λ place. place < length l.self) l.made.items
