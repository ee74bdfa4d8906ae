use Rattle.std.proofs.Common.{◌≡◌, [], map}
use Rattle.np_classes.specs.Classes.{numbered, places}
use Rattle.np_classes.proofs.by_number.blanks.Given as goal

-- as many lists as have been put
abbrev pub invariant-loop-blank : goal.invariant-loop-blank
invariant-loop-blank l = l.made.items ≡ map (numbered []) (places l._blank)
