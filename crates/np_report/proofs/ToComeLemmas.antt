-- What is still to come of the text of the table of a cluster, from row to row. For crates above.
use Rattle.std.proofs.Common.{◌≡◌, ℕ, List, [], ◌∷◌, ◌++◌, Bool, true, false, refl}
use Rattle.np_report.specs.Prelude.{Form, Query, Report, Row, keeps, row_text, rows_to_come}

module _ (form : Form) (names : List (List ℕ)) (query : Query) (report : Report) (came : Bool) where
  -- behind the last row it is the end
  pub rows_to_come-none : rows_to_come form names query report came [] ≡ form.end came
  unfolding rows_to_come
  rows_to_come-none = refl

  module _ (row : Row) (rows : List Row) where
    -- of a row that is asked for it is the text of the row, and what comes behind
    pub rows_to_come-kept : keeps query row.key ≡ true →
        rows_to_come form names query report came (row ∷ rows) ≡ form.row came (row_text names report row) ++ rows_to_come form names query report true rows
    unfolding rows_to_come
    rows_to_come-kept kept = rw kept refl

    -- and of another what comes behind
    pub rows_to_come-left_out : keeps query row.key ≡ false → rows_to_come form names query report came (row ∷ rows) ≡ rows_to_come form names query report came rows
    unfolding rows_to_come
    rows_to_come-left_out left_out = rw left_out refl
