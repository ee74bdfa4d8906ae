-- What an operation on sets does at one spot.
use Rattle.std.specs.Prelude.{Bool, ◌&&◌, ◌||◌, not}
use Rattle.np_pieces.specs.Types.{Join, Meet, Minus, Operation}

-- whether a spot is in what the operation makes, by whether it is in the first set and in the second
abbrev pub holds_after : Operation → Bool → Bool → Bool
holds_after Join first second = first || second
holds_after Meet first second = first && second
holds_after Minus first second = first && not second
