use Rattle.np_meaning.proofs.ValidNetworkReads.{net_policy-valid}
use Rattle.np_meaning.proofs.valid_laws.valid_network_policies_are_read.Goals as goal

pub returns : goal.returns
returns c = net_policy-valid
