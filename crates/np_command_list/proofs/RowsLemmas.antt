-- Rows that are still to come. For `write_rows`.
use Rattle.std.proofs.Common.{◌≡◌, ℕ, Bool, true, false, ◌||◌, if◌then◌else◌, List, [], ◌∷◌, ◌++◌, Option, refl, sym, ap, subst, ◌∙◌}
use Rattle.std.proofs.Math.Bool.{or-false, or-true}
use Rattle.np_command.proofs.LeftLemmas.{HasLeft, HasLeft-last}
use Rattle.np_report.proofs.ToComeLemmas.{rows_to_come-kept, rows_to_come-left_out, rows_to_come-none}
use Rattle.np_report.specs.Prelude.{Form, keeps, row_text, rows_to_come}
use Rattle.np_command_list.specs.Prelude.{Query, Report, Row}

-- the bytes of the next row, if it is asked for, stand before what is left then
pub rows_to_come-next : (form : Form) (names : List (List ℕ)) (query : Query) (report : Report) (came : Bool) (row : Row) (rows : List Row) →
    rows_to_come form names query report came (row ∷ rows) ≡ (if keeps query row.key then form.row came (row_text names report row) else []) ++ rows_to_come form names query report
    (came || keeps query row.key) rows
rows_to_come-next form names query report came row rows = by (keeps query row.key) refl
  where
    by : (kept : Bool) → keeps query row.key ≡ kept →
        rows_to_come form names query report came (row ∷ rows) ≡ (if kept then form.row came (row_text names report row) else []) ++ rows_to_come form names query report (came || kept) rows
    by true is =
        rows_to_come-kept form names query report came row rows is
        ∙ ap (λ (c : Bool). form.row came (row_text names report row) ++ rows_to_come form names query report c rows) (sym (or-true came))
    by false is =
        rows_to_come-left_out form names query report came row rows is
        ∙ ap (λ (c : Bool). rows_to_come form names query report c rows) (sym (or-false came))

module _ (form : Form) (names : List (List ℕ)) (query : Query) (report : Report) (came : Bool) (before after : Option (List ℕ)) (faults_before faults_after : ℕ) (whole held : List ℕ)
    (all : List Row) (left : HasLeft before after faults_before faults_after whole held (rows_to_come form names query report came all)) where
  -- of a text of which rows are to come, the bytes of the next one are, if it is asked for, and those of the others
  pub HasLeft-row : (row : Row) (rows : List Row) → all ≡ row ∷ rows → HasLeft before after faults_before faults_after whole held
      ((if keeps query row.key then form.row came (row_text names report row) else []) ++ rows_to_come form names query report (came || keeps query row.key) rows)
  HasLeft-row row rows is =
      subst (HasLeft before after faults_before faults_after whole held) (ap (rows_to_come form names query report came) is ∙ rows_to_come-next form names query report came row rows) left

  -- and where no row is to come, its end
  pub HasLeft-end : all ≡ [] → HasLeft before after faults_before faults_after whole held (form.end came ++ [])
  HasLeft-end is =
      HasLeft-last before after faults_before faults_after whole held (form.end came)
      (subst (HasLeft before after faults_before faults_after whole held) (ap (rows_to_come form names query report came) is ∙ rows_to_come-none form names query report came) left)
