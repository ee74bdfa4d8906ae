use Rattle.np_meaning.proofs.AdminMeant.{base_policy-meant}
use Rattle.np_meaning.proofs.policy_laws.baseline_policies_mean_their_members.Goals as goal

pub returns : goal.returns
returns c = base_policy-meant
