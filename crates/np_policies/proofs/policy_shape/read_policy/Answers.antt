use Rattle.np_policies.proofs.WellPolicies.{item-well}
use Rattle.np_policies.proofs.policy_shape.read_policy.Goals as goal

pub returns-clause-well : goal.returns-clause-well
returns-clause-well c = item-well c.args.item c.read_item.result _ c.read_item.ensures
