use Rattle.std.proofs.Common.{◌≡◌, take, drop}
use Rattle.np_owners.specs.Prelude.{HoldsPlaces, first_repeat, repeat_after}
use Rattle.np_owners.proofs.places.Places.of.Given as goal

-- the places of the items so far are noted, and the first repeat is among those to come
abbrev pub invariant-loop-place : goal.invariant-loop-place
invariant-loop-place l = record {
  places : HoldsPlaces (take l.place l.items) l.by_name.entries;
  apart : repeat_after (take l.place l.items) (drop l.place l.items) ≡ first_repeat l.items;
}
