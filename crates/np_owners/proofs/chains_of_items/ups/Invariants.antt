use Rattle.std.proofs.Common.{◌≡◌, map, take}
use Rattle.np_owners.specs.Owners as owners
use Rattle.np_owners.proofs.chains_of_items.ups.Given as goal

-- the owners of the items so far
abbrev pub invariant-loop-item : goal.invariant-loop-item
invariant-loop-item l = l.made.items ≡ map (owners.owner_place l.items) (take l.item-index l.items)
