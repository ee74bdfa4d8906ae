use Rattle.std.proofs.Common.{◌≡◌, ◌++◌, map, take}
use Rattle.np_table.specs.Prelude.{address_row, four_of, stretches_of}
use Rattle.np_table.proofs.rows_of_addresses.add_four.Given as goal

-- the rows of the pieces so far stand behind those that were there
abbrev pub invariant-loop-piece : goal.invariant-loop-piece
invariant-loop-piece l = l.rows ≡ l.fn.rows ++ map (address_row four_of) (stretches_of (λ number. number) (take l.piece-index l.pieces))
