use Rattle.std.proofs.Common.{◌≡◌}
use Rattle.np_objects.specs.Prelude.{owner_of}
use Rattle.np_objects.proofs.owner_reference.owner_of.Given as goal

-- no reference so far names an owner
abbrev pub invariant-loop-reference : goal.invariant-loop-reference
invariant-loop-reference l = owner_of l.dependent l.fn.references ≡ owner_of l.dependent l.reference-iterator.rest.items
