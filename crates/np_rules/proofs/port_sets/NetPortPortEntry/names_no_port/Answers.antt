use Rattle.std.proofs.Math.Bool.{and-false}
use Rattle.np_conns.specs.Prelude.{same_proto}
use Rattle.np_rules.proofs.PortNameLemmas.{tells_none}
use Rattle.np_rules.specs.Prelude.{end_view, net_entry_matches}
use Rattle.np_rules.proofs.port_sets.NetPortPortEntry.names_no_port.Goals as goal

pub returns-in-Named : goal.returns-in-Named
returns-in-Named c =
    tells_none c.in-Named.name (end_view c.args.destination.now) c.has_port_named.result (net_entry_matches c.args.self.now (end_view c.args.destination.now))
    (rw c.as_str.ensures at c.has_port_named.ensures) (λ spot none. rw (c.in-Named.is, none) (and-false (same_proto spot.proto c.in-Named.proto)))
