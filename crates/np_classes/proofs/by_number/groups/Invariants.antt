use Rattle.std.proofs.Common.{◌≡◌, map, take}
use Rattle.np_classes.specs.Classes.{numbered, places}
use Rattle.np_classes.proofs.by_number.groups.Given as goal

-- the lists of the places so far
abbrev pub invariant-loop-place : goal.invariant-loop-place
invariant-loop-place l = l.made.items ≡ map (numbered (take l.place l.numbers)) (places l.count)
