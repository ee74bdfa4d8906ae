use Rattle.np_rules.proofs.SideLemmas.{net_alone}
use Rattle.np_rules.proofs.laws.network_policies_alone_isolate.Goals as goal

pub returns : goal.returns
returns c = net_alone
