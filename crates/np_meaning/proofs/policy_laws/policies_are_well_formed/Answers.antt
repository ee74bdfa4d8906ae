use Rattle.np_policies.proofs.WellPolicies.{policy-well}
use Rattle.np_meaning.proofs.policy_laws.policies_are_well_formed.Goals as goal

pub returns : goal.returns
returns c = policy-well
