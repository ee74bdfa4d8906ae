-- The rows of a table, as they are counted. For `summary` and `tally_of`.
use Rattle.std.proofs.Common.{◌≡◌, ℕ, ◌+◌, ◌≤◌, List, [], ◌∷◌, ◌++◌, codes, length, arith, refl, ap, sym, ◌∙◌}
use Rattle.np_command_sample.specs.Prelude.{count_line, count_lines, counted}
use Rattle.np_report.specs.Prelude.{Counts, row_count, with_ends, with_row}
use Rattle.np_table.specs.declared.rows.Row.{Row}
use Rattle.np_table.specs.declared.rows.RowEnd.{RowEnd}
use Rattle.np_table.specs.declared.rows.RowEnd.TheVariants.{Controller, Span, Work}

-- a row is counted once
more_ends : (counts : Counts) (source destination : RowEnd) → row_count (with_ends counts source destination) ≡ row_count counts + 1
more_ends counts (Span addresses) destination = omega arith
more_ends counts (Work source) (Span addresses) = omega arith
more_ends counts (Work source) Controller = omega arith
more_ends counts (Work source) (Work destination) = omega arith
more_ends counts Controller (Span addresses) = omega arith
more_ends counts Controller Controller = omega arith
more_ends counts Controller (Work destination) = omega arith

row_count-more : (counts : Counts) (row : Row) → row_count (with_row counts row.key) ≡ row_count counts + 1
row_count-more counts row = more_ends counts row.key.source row.key.destination

-- the next row is counted before those behind it
counted-next : (counts : Counts) (row : Row) (rows : List Row) → counted counts (row ∷ rows) ≡ counted (with_row counts row.key) rows
unfolding counted
counted-next counts row rows = refl

pub counted-more : (counts more : Counts) (row : Row) (rows all : List Row) → all ≡ row ∷ rows → more ≡ with_row counts row.key → counted more rows ≡ counted counts all
counted-more counts more row rows all came is = ap (λ (c : Counts). counted c rows) is ∙ sym (counted-next counts row rows) ∙ ap (counted counts) (sym came)

-- so as many are counted and to come as before
pub few-more : (counts more : Counts) (row : Row) (rows all : List Row) (most : ℕ) → all ≡ row ∷ rows → more ≡ with_row counts row.key → row_count counts + length all ≤ most →
    row_count more + length rows ≤ most
few-more counts more row rows all most came is few =
    let own : row_count more ≡ row_count counts + 1 = ap row_count is ∙ row_count-more counts row in
    let one : length all ≡ length rows + 1 = ap length came ∙ omega arith in
    omega (arith, own, one, few)

pub counted-none : (counts : Counts) → counted counts [] ≡ counts
unfolding counted
counted-none counts = refl

-- the lines of all counts
pub count_lines-joined : (workloads : ℕ) (counts : Counts) (w p a c : List ℕ) → w ≡ count_line (codes "workloads") workloads → p ≡ count_line (codes "pair rows") counts.pairs
    → a ≡ count_line (codes "address rows") counts.addresses → c ≡ count_line (codes "ingress rows") counts.controllers → w ++ (p ++ (a ++ c)) ≡ count_lines workloads counts
count_lines-joined workloads counts w p a c w_is p_is a_is c_is =
    ap (λ (x : List ℕ). x ++ (p ++ (a ++ c))) w_is
    ∙ ap (λ (x : List ℕ). count_line (codes "workloads") workloads ++ (x ++ (a ++ c))) p_is
    ∙ ap (λ (x : List ℕ). count_line (codes "workloads") workloads ++ (count_line (codes "pair rows") counts.pairs ++ (x ++ c))) a_is
    ∙ ap (λ (x : List ℕ). count_line (codes "workloads") workloads ++ (count_line (codes "pair rows") counts.pairs ++ (count_line (codes "address rows") counts.addresses ++ x))) c_is
