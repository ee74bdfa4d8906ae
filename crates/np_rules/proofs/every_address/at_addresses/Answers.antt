use Rattle.np_rules.proofs.AddressLemmas.{has_address_spot-over}
use Rattle.np_rules.proofs.every_address.at_addresses.Goals as goal

pub returns : goal.returns
returns c = has_address_spot-over c.args.addresses.now c.args.conns.now c.in_ok-first.first c.in_ok-second.second c.in_ok-first.ensures c.in_ok-second.ensures
