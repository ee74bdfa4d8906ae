use Rattle.np_meaning.proofs.PortsMeaning.{all_ports-meant, name-meant, one_port-meant, range-meant}
use Rattle.np_meaning.proofs.policy_laws.port_entries_mean_their_members.Goals as goal

pub returns-clause-all_ports : goal.returns-clause-all_ports
returns-clause-all_ports c = all_ports-meant

pub returns-clause-one_port : goal.returns-clause-one_port
returns-clause-one_port c = one_port-meant

pub returns-clause-range : goal.returns-clause-range
returns-clause-range c = range-meant

pub returns-clause-name : goal.returns-clause-name
returns-clause-name c = name-meant
