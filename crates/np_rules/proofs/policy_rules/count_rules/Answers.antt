use Rattle.std.proofs.Common.{arith}
use Rattle.np_rules.proofs.PlacesLemmas.{length-next}
use Rattle.np_rules.proofs.policy_rules.count_rules.Goals as goal

pub loop-policy-preserved : goal.loop-policy-preserved
loop-policy-preserved g c =
    omega (
      arith,
      length-next (λ policy. policy.rules.now) c.args.policies.now c.loop-policy.policy-index c.policy-item.result c.loop-policy-test.true c.policy-item.is,
      c.loop-policy.invariant,
      c.add.ensures,
    )
