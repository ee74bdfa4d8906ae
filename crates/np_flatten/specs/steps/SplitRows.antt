-- Rows that speak of one family of two.
use Rattle.std.specs.Prelude.{ℕ, List, [], ◌∷◌, Option, Some, None}
use Rattle.std.specs.Option.{option_or}
use Rattle.np_flatten.specs.Types.{Family, Row}
use Rattle.np_table.specs.declared.rows.RowEnd.{RowEnd}
use Rattle.np_table.specs.declared.rows.RowEnd.TheVariants.{Work}

-- the workloads of a mark and of two ends
abbrev pub split_by : Option Family → RowEnd → RowEnd → Option (ℕ × ℕ)
split_by (Some family) (Work source) (Work destination) = Some (source, destination)
split_by mark source destination = None

-- the two workloads of a row with a mark
abbrev pub split_of : Row → Option (ℕ × ℕ)
split_of row = split_by row.family row.key.source row.key.destination

-- those of the first such row
abbrev pub first_split_of : List Row → Option (ℕ × ℕ)
first_split_of [] = None
first_split_of (row ∷ rows) = option_or (split_of row) (first_split_of rows)
