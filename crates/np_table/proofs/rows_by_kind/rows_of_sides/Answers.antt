use Rattle.std.proofs.Common.{◌++◌, List, None, ap, ◌∙◌}
use Rattle.std.proofs.lemmas.Result.{IfOk-weaker}
use Rattle.np_conns.specs.Prelude.{Conns}
use Rattle.np_table.proofs.SetLemmas.{rows_in-both, rows_in-one}
use Rattle.np_table.proofs.rows_by_kind.rows_of_sides.Goals as goal
use Rattle.np_table.specs.Prelude.{EstateLists, Four, Row, RowKey, Six, conns_of_kinds, pair_key, row_if, rows_of_both}

pub returns-then-families-ne1-clause-rows : goal.returns-then-families-ne1-clause-rows
returns-then-families-ne1-clause-rows c =
    let key = pair_key c.args.pair.source c.args.pair.destination in
    let conns = conns_of_kinds c.args.sides.now.lists c.args.pair.source c.args.pair.destination in
    IfOk-weaker c.rows_of_both.result _ _ (λ made is. is
    ∙ ap (λ (k : RowKey). rows_of_both k c.in_ok-four.four c.in_ok-six.six) c.pair_key-key.ensures
    ∙ ap (λ (four : Conns). rows_of_both key four c.in_ok-six.six) c.in_ok-four.ensures.set
    ∙ ap (λ (six : Conns). rows_of_both key (conns Four) six)
    (c.in_ok-six.ensures.set ∙ ap (λ (l : EstateLists). conns_of_kinds l c.args.pair.source c.args.pair.destination Six) c.set_of_kinds.ensures.more.lists)
    ∙ rows_in-both c.args.families.now key conns c.if-families-ne1.true) c.rows_of_both.ensures

pub returns-clause-rows : goal.returns-clause-rows
returns-clause-rows c =
    let key = pair_key c.args.pair.source c.args.pair.destination in
    let conns = conns_of_kinds c.args.sides.now.lists c.args.pair.source c.args.pair.destination in
    c.in_ok-add_row.ensures
    ∙ ap (λ (rows : List Row). rows ++ row_if c.pair_key-key.result None c.in_ok-conns.conns) c.new-rows.ensures
    ∙ ap (λ (k : RowKey). row_if k None c.in_ok-conns.conns) c.pair_key-key.ensures
    ∙ ap (row_if key None) c.in_ok-conns.ensures.set
    ∙ rows_in-one c.args.families.now key conns c.if-families-ne1.false
