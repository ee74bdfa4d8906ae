use Rattle.std.proofs.Common.{◌∙◌}
use Rattle.std.proofs.lemmas.Result.{IfOk-weaker}
use Rattle.np_table.proofs.AddressLemmas.{rows_of_addresses-made}
use Rattle.np_table.proofs.rows_of_addresses.rows_by_addresses.Goals as goal
use Rattle.np_table.specs.Prelude.{side_with_address}

pub returns : goal.returns
returns c =
    IfOk-weaker c.rows_of_all.result _ _ (λ made is. is ∙ rows_of_addresses-made (side_with_address c.args.near.now) c.in_ok-conns.conns c.in_ok-conns.ensures.four c.in_ok-conns.ensures.six)
    c.rows_of_all.ensures
