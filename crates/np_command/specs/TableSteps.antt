-- How many rules a table makes its rows of.
use Rattle.std.specs.Prelude.{ℕ, ◌+◌, ◌*◌, length}
use Rattle.np_command.specs.Types.{EstateLists}
use Rattle.np_fold.specs.Prelude.{folding_of}
use Rattle.np_table.specs.Prelude.{most_rules}

-- with so many workloads, of each of which so many rules speak in a direction at most
abbrev pub table_steps : ℕ → ℕ → ℕ
table_steps count most = (4 * count * count + 6 * count) * most

-- for the table of an estate
unfoldable pub list_steps : EstateLists → ℕ
list_steps lists = table_steps (length (folding_of lists).workloads) (most_rules lists (folding_of lists))
