use Rattle.std.proofs.Common.{flat_map, refl}
use Rattle.std.proofs.lemmas.List.Elements.{All-push}
use Rattle.np_reach.proofs.MarkLemmas.{policy_more}
use Rattle.np_reach.proofs.spoken.spoken_by.Goals as goal
use Rattle.np_reach.specs.Prelude.{IsSpoken}
use Rattle.np_rules.specs.Prelude.{pod, pod_end}

pub loop-policy-preserved : goal.loop-policy-preserved
loop-policy-preserved g c = record {
  policies = policy_more (λ one. one.policy.now) c.args.policies.now c.loop-policy.policy-index c.policy-item.result c.loop-policy.made.items c.push.new.self.items _ c.loop-policy-test.true
      c.policy-item.is c.in_ok-push.ensures.items c.loop-policy.invariant.policies refl;
  far = rw c.in_ok-push.ensures.items (All-push (λ one. IsSpoken (λ far. g.P.Speaker.speaks c.args.direction (pod (pod_end far.now)) one.policy.now)
      (flat_map (λ stretch. stretch.pods.now) c.args.stretches.now) one.far.items) c.loop-policy.made.items _ c.loop-policy.invariant.far c.in_ok-far.ensures);
}
