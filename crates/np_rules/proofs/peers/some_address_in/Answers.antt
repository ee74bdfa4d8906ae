use Rattle.std.proofs.Common.{sym, ◌∙◌}
use Rattle.np_rules.proofs.BlockPeers.{by_blocks}
use Rattle.np_rules.proofs.peers.some_address_in.Goals as goal

pub returns-in-Some : goal.returns-in-Some
returns-in-Some c = rw (c.in-Some.is) (c.some_inside.ensures ∙ sym (by_blocks c.args.family c.args.cidrs.now c.in-Some.addresses.now))
