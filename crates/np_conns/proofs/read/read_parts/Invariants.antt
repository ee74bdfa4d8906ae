use Rattle.std.proofs.Common.{◌≡◌, List, ◌∷◌, length, take, codes}
use Rattle.std.specs.List.{join_by, AllByRecursion}
use Rattle.np_conns.specs.Prelude.{IsConns, IsPart, Part, PortSpot, has_spot, in_parts, text_of_part}
use Rattle.np_conns.proofs.read.read_parts.Given as goal

abbrev pub invariant-loop-piece : goal.invariant-loop-piece
invariant-loop-piece l = record {
  can : goal.iterator-loop-piece.can_next l.piece-iterator;
  ends : goal.iterator-loop-piece.is_finite l.piece-iterator;
  well : IsConns l.set;
  taken : (part : Part) (others : List Part) → AllByRecursion IsPart (part ∷ others) → l.text ≡ join_by text_of_part (codes "; ") (part ∷ others) → (spot : PortSpot) →
      has_spot l.set spot ≡ in_parts (take (length l.yielded) (part ∷ others)) spot;
}
