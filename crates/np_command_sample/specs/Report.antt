-- `sample`: how many rows the table of a sample has.
use Rattle.std.specs.Prelude.{ℕ, ◌<◌, ◌^◌, List, [], ◌∷◌, ◌++◌, None, codes, decimal, length}
use Rattle.np_model.specs.declared.lists.EstateLists.{EstateLists}
use Rattle.np_fold.specs.Prelude.{folding_of}
use Rattle.np_report.specs.Prelude.{Counts, no_rows, with_row}
use Rattle.np_routes.specs.Prelude.{cluster_rows, cluster_table}
use Rattle.np_table.specs.declared.rows.Row.{Row}

-- rows, counted one after another
unfoldable pub counted : Counts → List Row → Counts
counted counts [] = counts
counted counts (row ∷ rows) = counted (with_row counts row.key) rows

-- the rows of the table of an estate, where nobody is known to send what comes through ingresses
abbrev pub counts_of : EstateLists → Counts
counts_of lists = counted no_rows (cluster_rows (cluster_table lists None))

-- the rows of the table of an estate are few enough to be counted
abbrev pub HasFewRows : EstateLists → Type 0
HasFewRows lists = length (cluster_rows (cluster_table lists None)) < 2 ^ 64

-- `pair rows 210`, as a line
abbrev pub count_line : List ℕ → ℕ → List ℕ
count_line what count = what ++ codes " " ++ decimal count ++ codes "\n"

-- a line for each count
abbrev pub count_lines : ℕ → Counts → List ℕ
count_lines workloads counts =
    count_line (codes "workloads") workloads ++ (count_line (codes "pair rows") counts.pairs
    ++ (count_line (codes "address rows") counts.addresses ++ count_line (codes "ingress rows") counts.controllers))

-- how many workloads there are, and how many rows of each sort
unfoldable pub sample_summary : EstateLists → List ℕ
sample_summary lists = count_lines (length (folding_of lists).workloads) (counts_of lists)
