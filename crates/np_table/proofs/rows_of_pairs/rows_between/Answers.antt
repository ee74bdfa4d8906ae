use Rattle.std.proofs.Common.{◌++◌, List, None, ap, ◌∙◌}
use Rattle.std.proofs.lemmas.Result.{IfOk-weaker}
use Rattle.np_table.specs.Prelude.{Family, Row, row_if}
use Rattle.np_conns.specs.Prelude.{conns_of}
use Rattle.np_table.proofs.SetLemmas.{rows_in-both, rows_in-one}
use Rattle.np_table.proofs.rows_of_pairs.rows_between.Goals as goal
use Rattle.np_kinds.specs.Prelude.{between_pods}

pub returns-then-families-ne1 : goal.returns-then-families-ne1
returns-then-families-ne1 c =
    IfOk-weaker c.rows_of_both.result _ _ (λ made is. is ∙ rw (c.in_ok-four.ensures, c.in_ok-six.ensures)
    (rows_in-both c.args.families.now c.args.key.now (λ (family : Family). conns_of (between_pods c.args.sender.now.lists c.args.sender.now.pod c.args.receiver.now.pod family))
    c.if-families-ne1.true)) c.rows_of_both.ensures

pub returns : goal.returns
returns c =
    c.in_ok-add_row.ensures
    ∙ ap (λ (rows : List Row). rows ++ row_if c.args.key.now None c.in_ok-conns.conns) c.new-rows.ensures
    ∙ ap (row_if c.args.key.now None) c.in_ok-conns.ensures
    ∙ rows_in-one c.args.families.now c.args.key.now (λ (family : Family). conns_of (between_pods c.args.sender.now.lists c.args.sender.now.pod c.args.receiver.now.pod family)) c.if-families-ne1.false
