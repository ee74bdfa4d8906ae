use Rattle.std.proofs.Common.{sym, append-nil}
use Rattle.np_table.proofs.SetLemmas.{row_if-none}
use Rattle.np_table.proofs.rows_of_pairs.add_row.Goals as goal

pub returns-then-is_empty : goal.returns-then-is_empty
returns-then-is_empty c = rw (row_if-none c.args.key.now c.args.family c.args.conns c.is_empty.ensures.well c.if-is_empty.ensures.answer) (sym (append-nil _))
