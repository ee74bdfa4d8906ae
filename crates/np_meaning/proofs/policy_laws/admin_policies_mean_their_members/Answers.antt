use Rattle.np_meaning.proofs.AdminMeant.{admin_policy-meant}
use Rattle.np_meaning.proofs.policy_laws.admin_policies_mean_their_members.Goals as goal

pub returns : goal.returns
returns c = admin_policy-meant
