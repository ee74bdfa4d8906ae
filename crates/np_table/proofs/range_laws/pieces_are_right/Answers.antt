use Rattle.np_table.proofs.RangePieces.{Covers-right}
use Rattle.np_table.proofs.range_laws.pieces_are_right.Goals as goal

pub returns : goal.returns
returns g c = Covers-right
