use Rattle.np_meaning.proofs.NetworkMeant.{net_policy-meant}
use Rattle.np_meaning.proofs.policy_laws.network_policies_mean_their_members.Goals as goal

pub returns : goal.returns
returns c = net_policy-meant
