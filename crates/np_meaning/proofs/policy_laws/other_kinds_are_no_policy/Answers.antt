use Rattle.np_meaning.proofs.OtherKinds.{no_policy, other_kind}
use Rattle.np_meaning.proofs.policy_laws.other_kinds_are_no_policy.Goals as goal

pub returns : goal.returns
returns c = λ value. (other_kind value, λ is. no_policy value is.0 is.1 is.2)
