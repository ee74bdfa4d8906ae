use Rattle.np_reach.proofs.MarkLemmas.{item_more}
use Rattle.np_reach.proofs.spoken.marks_of.Goals as goal
use Rattle.np_rules.specs.Prelude.{pod, pod_end}

pub loop-far-preserved : goal.loop-far-preserved
loop-far-preserved g c =
    item_more (λ far. g.P.Speaker.speaks c.args.direction (pod (pod_end far.now)) c.args.policy.now) c.args.pods.now c.loop-far.far-index c.far-item.result c.loop-far.made c.push.new.self
    c.reaches.result c.loop-far-test.true c.far-item.is c.in_ok-push.ensures.ok c.loop-far.invariant c.reaches.ensures
