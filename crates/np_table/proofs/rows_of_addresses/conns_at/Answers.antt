use Rattle.np_rules.specs.Prelude.{near_pod}
use Rattle.np_table.proofs.AddressLemmas.{stretches_of-four, stretches_of-six}
use Rattle.np_table.proofs.SetLemmas.{IfOk-both}
use Rattle.np_table.proofs.rows_of_addresses.conns_at.Goals as goal

pub returns-clause-four : goal.returns-clause-four
returns-clause-four c =
    IfOk-both c.address_set.result _ _ _ (λ made agrees covers. stretches_of-four c.args.near.now.lists c.args.near.now.direction (near_pod c.args.near.now) made covers agrees)
    c.address_set.ensures.members c.address_set.ensures.four

pub returns-clause-six : goal.returns-clause-six
returns-clause-six c =
    IfOk-both c.address_set.result _ _ _ (λ made agrees covers. stretches_of-six c.args.near.now.lists c.args.near.now.direction (near_pod c.args.near.now) made covers agrees)
    c.address_set.ensures.members c.address_set.ensures.six
