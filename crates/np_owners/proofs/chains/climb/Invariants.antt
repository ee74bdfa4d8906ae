use Rattle.std.proofs.Common.{◌≡◌, ◌<◌, ◌-◌, length}
use Rattle.np_owners.specs.Prelude.{chain, last_of, top}
use Rattle.np_owners.proofs.chains.climb.Given as goal

-- the rest of the chain, from here on, has the same last place
abbrev pub invariant-loop-step : goal.invariant-loop-step
invariant-loop-step l = (l.at < length l.ups) × (last_of l.at (chain l.ups (length l.ups - l._step) l.at) ≡ top l.ups l.place)
