-- The definitions and types of this crate that its proofs and the crates above speak of, one import line a file.
pub use Rattle.np_pieces.specs.Laws.{IsWell-value_at, has_spot-in_space, same_spots_same_pieces, same_values_same_pieces, value_at-some}
pub use Rattle.np_pieces.specs.Operations.{holds_after}
pub use Rattle.np_pieces.specs.Pieces.{ArePieces, Covers, IsNext, has_at, has_spot, is_in, value_at, value_has}
pub use Rattle.np_pieces.specs.Steps.{AreBothAt, GoOn, GrowsTo, IsGrown, IsOverlap, IsShared, IsWith}
pub use Rattle.np_pieces.specs.Types.{At, Join, Meet, Minus, Operation, Piece}
pub use Rattle.np_pieces.specs.Values.{ArePieces-ordered, is_in-before, is_in-inside, is_in-past, value_at-before, value_at-first, value_at-past, value_at-rest}
