-- The types and variants of structs and enums that this crate's definitions and proofs speak of, its own and those of the crates below.
pub use Rattle.np_pieces.specs.declared.operation.Operation.{Operation}
pub use Rattle.np_pieces.specs.declared.operation.Operation.TheVariants.{Join, Meet, Minus}
pub use Rattle.np_pieces.specs.declared.piece.At.{At}
pub use Rattle.np_pieces.specs.declared.piece.Piece.{Piece}
