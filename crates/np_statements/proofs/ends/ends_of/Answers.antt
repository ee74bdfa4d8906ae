use Rattle.np_rules.proofs.AddressLemmas.{set_has-everything}
use Rattle.np_statements.proofs.AddressSetLemmas.{is-addresses_in, is-every_address}
use Rattle.np_statements.proofs.EndLemmas.{all-addresses, block-addresses}
use Rattle.np_statements.proofs.ends.ends_of.Goals as goal

pub returns-in_ok-everything-in-Addresses : goal.returns-in_ok-everything-in-Addresses
returns-in_ok-everything-in-Addresses c =
    let set = c.in_ok-everything-in-Addresses.field-0 in
    all-addresses c.args.folded.now c.args.form.now set c.addresses_alone.result c.in-Addresses.is
    (is-every_address set c.in_ok-everything-in-Addresses.ensures.well (set_has-everything set c.in_ok-everything-in-Addresses.ensures.members)) c.addresses_alone.ensures

pub returns-in_ok-cidr_set-in-Block : goal.returns-in_ok-cidr_set-in-Block
returns-in_ok-cidr_set-in-Block c =
    let set = c.in_ok-cidr_set-in-Block.field-0 in
    block-addresses c.args.folded.now c.args.form.now c.in-Block.cidr set c.addresses_alone-in-Block.result c.in-Block.is
    (is-addresses_in c.in-Block.cidr set c.in_ok-cidr_set-in-Block.ensures.well (c.in_ok-cidr_set-in-Block.ensures.exact (rw c.in-Block.is at c.requires))) c.addresses_alone-in-Block.ensures
