-- The bytes of several rows, and what comes behind them. For crates above.
use Rattle.std.proofs.Common.{◌≡◌, ℕ, List, [], ◌∷◌, ◌++◌, Bool, true, false, ◌||◌, append_assoc, ap, sym, ◌∙◌}
use Rattle.std.proofs.Math.Bool.{or-false, or-true}
use Rattle.np_report.specs.Prelude.{Form, RowText, lines_of, text_to_come}

-- whether there is a row
abbrev pub is_some_row : List RowText → Bool
is_some_row [] = false
is_some_row (row ∷ rows) = true

-- what is to come of some rows and of others is the lines of the ones and what is to come of the others
pub text_to_come-rows : (form : Form) (came : Bool) (rows more : List RowText)
    → text_to_come form came (rows ++ more) ≡ lines_of form came rows ++ text_to_come form (came || is_some_row rows) more
text_to_come-rows form came [] more = ap (λ (b : Bool). text_to_come form b more) (sym (or-false came))
text_to_come-rows form came (row ∷ rows) more =
    ap (λ (rest : List ℕ). form.row came row ++ rest) (text_to_come-rows form true rows more)
    ∙ sym (append_assoc (form.row came row) (lines_of form true rows) (text_to_come form true more))
    ∙ ap (λ (b : Bool). (form.row came row ++ lines_of form true rows) ++ text_to_come form b more) (sym (or-true came))
