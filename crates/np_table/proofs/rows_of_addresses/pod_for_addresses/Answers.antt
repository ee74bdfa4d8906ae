use Rattle.np_table.proofs.SideLemmas.{address_rows-alike}
use Rattle.np_table.proofs.rows_of_addresses.pod_for_addresses.Goals as goal

pub returns-clause-rows : goal.returns-clause-rows
returns-clause-rows c =
    address_rows-alike c.args.sides.now.lists c.ask.new.self.lists c.args.direction c.args.workload c.like.result c.ask.ensures.more.lists c.like.ensures.lawful c.requires c.like.ensures.like
