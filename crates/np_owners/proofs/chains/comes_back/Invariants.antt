use Rattle.std.proofs.Common.{◌≡◌, ◌<◌, ◌-◌, length, nat_eq}
use Rattle.std.specs.List.{list_any}
use Rattle.np_owners.specs.Prelude.{chain, owns_itself}
use Rattle.np_owners.proofs.chains.comes_back.Given as goal

-- the place is among its owners if it is in the rest of the chain, from here on
abbrev pub invariant-loop-owner : goal.invariant-loop-owner
invariant-loop-owner l = (l.at < length l.ups) × (list_any (λ owner. nat_eq owner l.place) (chain l.ups (length l.ups - l._owner) l.at) ≡ owns_itself l.ups l.place)
