-- Pieces are the right list of what passes by them. For `pieces_are_right`.
use Rattle.std.proofs.Common.{◌≡◌, ℕ, ◌+◌, ◌<◌, ◌≤◌, List, [], ◌∷◌, Bool, Option, Some, None, refl, ◌∙◌, ap, arith}
use Rattle.np_conns.specs.Prelude.{Conns, IsConns, conns_of, has_spot}
use Rattle.np_table.specs.Prelude.{AreRight, IsRight, Piece, PortSpot, stretches_of}
use Rattle.np_pieces.specs.Prelude.{ArePieces, ArePieces-ordered, Covers, has_at, value_at-first, value_at-rest, value_has}
use Rattle.np_conns.proofs.ConnLemmas.{conns_of-has_spot}

-- by a test that answers at each number as the pieces from there on do
ArePieces-right : {P : Type 0} (number_of : P → ℕ) (passes : ℕ → PortSpot → Bool) (from to : ℕ) (before : Option Conns) (pieces : List (Piece P Conns)) →
    ArePieces number_of IsConns from to before pieces → ((n : ℕ) → from ≤ n → n < to → passes n ≡ has_at number_of has_spot pieces n) → AreRight passes from to before (stretches_of number_of pieces)
ArePieces-right number_of passes from to before [] are alike = are
ArePieces-right number_of passes from to before (piece ∷ pieces) are alike =
    let ends = ArePieces-ordered number_of IsConns (number_of piece.hi + 1) to (Some piece.value) pieces are.1 in (
      record {
        start = are.0.start;
        filled = omega (arith, are.0.start, are.0.filled);
        conns = λ n above below.
            ap conns_of (alike n (omega (arith, are.0.start)) (omega arith) ∙ ap (value_has has_spot) (value_at-first number_of piece pieces n above below))
            ∙ conns_of-has_spot piece.value are.0.well;
        differs = are.0.differs;
      },
      ArePieces-right number_of passes (number_of piece.hi + 1) to (Some piece.value) pieces are.1 (λ n above below.
          alike n (omega (arith, are.0.filled)) below ∙ ap (value_has has_spot) (value_at-rest number_of piece pieces n (omega arith))),
    )

-- pieces of a whole space
pub Covers-right : {P : Type 0} (number_of : P → ℕ) (low high : ℕ) (pieces : List (Piece P Conns)) → Covers number_of IsConns low high pieces →
    IsRight (has_at number_of has_spot pieces) low high (stretches_of number_of pieces)
Covers-right number_of low high pieces covers =
    ArePieces-right number_of (has_at number_of has_spot pieces) low (high + 1) None pieces covers (λ n above below. refl)
