use Rattle.std.proofs.Common.{◌∙◌}
use Rattle.std.proofs.lemmas.Result.{IfOk-weaker}
use Rattle.np_table.proofs.SideLemmas.{address_rows-kind}
use Rattle.np_table.proofs.rows_of_addresses.address_rows_by_kind.Goals as goal

pub returns-clause-rows : goal.returns-clause-rows
returns-clause-rows c =
    IfOk-weaker c.rows_by_addresses.result _ _ (λ made is. is ∙ address_rows-kind c.args.sides.now.lists c.ask.new.self.lists c.args.direction c.args.workload c.at-near.result.now
    c.ask.ensures.more.lists c.at-near.ensures.lawful c.requires c.at-near.ensures.side) c.rows_by_addresses.ensures
