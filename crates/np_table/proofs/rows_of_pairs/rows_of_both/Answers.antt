use Rattle.std.proofs.Common.{◌++◌, List, None, Some, sym, ap, ◌∙◌}
use Rattle.np_table.specs.Prelude.{Four, Row, Six, row_if}
use Rattle.np_table.proofs.SetLemmas.{rows_of_both-apart, rows_of_both-same}
use Rattle.np_table.proofs.rows_of_pairs.rows_of_both.Goals as goal

pub returns-then-same : goal.returns-then-same
returns-then-same c =
    c.in_ok-add_row.ensures
    ∙ ap (λ (rows : List Row). rows ++ row_if c.args.key.now None c.args.four) c.new-rows.ensures
    ∙ sym (rows_of_both-same c.args.key.now c.args.four c.args.six c.if-same.ensures.answer)

pub returns : goal.returns
returns c =
    let four = c.in_ok-add_row-2.ensures ∙ ap (λ (rows : List Row). rows ++ row_if c.args.key.now (Some Four) c.args.four) c.new-rows.ensures in
    c.in_ok-add_row-3.ensures
    ∙ ap (λ (rows : List Row). rows ++ row_if c.args.key.now (Some Six) c.args.six) four
    ∙ sym (rows_of_both-apart c.args.key.now c.args.four c.args.six c.if-same.ensures.answer)
