use Rattle.np_routes.proofs.PortSetLemmas.{name-added}
use Rattle.np_routes.proofs.port_set.PortSet.add_name.Goals as goal

pub returns : goal.returns
returns c other = name-added c.args.self.now.numbers c.args.self.now.names c.insert.new.self c.args.name c.in_ok-insert.ensures.updates.0 other
