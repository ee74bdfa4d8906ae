use Rattle.std.proofs.Common.{◌∙◌}
use Rattle.std.proofs.lemmas.Result.{IfOk-weaker}
use Rattle.np_table.proofs.SideLemmas.{address_rows-first}
use Rattle.np_table.proofs.rows_of_addresses.address_rows.Goals as goal

pub returns : goal.returns
returns c =
    IfOk-weaker c.rows_by_addresses.result _ _ (λ made is. is ∙ address_rows-first c.args.folded.now c.args.direction c.args.workload c.in_ok-near.near c.in_ok-near.ensures)
    c.rows_by_addresses.ensures
