use Rattle.std.proofs.Common.{◌/◌, map, arith, ap, ◌∙◌}
use Rattle.std.proofs.lemmas.Result.{IfOk-weaker}
use Rattle.np_kinds.specs.Prelude.{IsWorkload}
use Rattle.np_table.proofs.SideLemmas.{side-most}
use Rattle.np_table.proofs.all_rows.address_rows_at.Goals as goal
use Rattle.np_table.specs.Prelude.{EstateLists, address_rows, estate_table, row_of, rows_towards}

pub returns-in_err-rows-clause-most : goal.returns-in_err-rows-clause-most
returns-in_err-rows-clause-most g c =
    let within : IsWorkload c.args.sides.now.lists (c.args.place / 2) = omega (arith, c.requires.place) in
    omega (
      arith,
      c.count.ensures,
      side-most c.args.sides.now.lists c.ask.new.self.lists c.direction_at-direction.result (c.args.place / 2) c.at-near.result.now c.ask.ensures.more.lists c.at-near.ensures.lawful within
          c.at-near.ensures.side,
    )

pub returns-clause-rows : goal.returns-clause-rows
returns-clause-rows g c = IfOk-weaker c.with_keys.result _ _
    (λ made is.
    is
    ∙ ap (map (row_of (c.args.place / 2) c.direction_at-direction.result)) (c.items.ensures ∙ c.in_ok-rows.ensures.rows
    ∙ ap (λ (lists : EstateLists). address_rows (estate_table lists) (c.args.place / 2) c.direction_at-direction.result) c.ask.ensures.more.lists)
    ∙ ap (rows_towards (estate_table c.args.sides.now.lists) (c.args.place / 2)) c.direction_at-direction.ensures)
    c.with_keys.ensures

pub returns-clause-most : goal.returns-clause-most
returns-clause-most g c =
    let within : IsWorkload c.args.sides.now.lists (c.args.place / 2) = omega (arith, c.requires.place) in
    omega (
      arith,
      c.count.ensures,
      side-most c.args.sides.now.lists c.ask.new.self.lists c.direction_at-direction.result (c.args.place / 2) c.at-near.result.now c.ask.ensures.more.lists c.at-near.ensures.lawful within
          c.at-near.ensures.side,
    )
