use Rattle.std.proofs.Common.{[], ◌∷◌, ◌++◌, List, ap, ◌∙◌}
use Rattle.np_flatten.specs.Prelude.{NetPeer}
use Rattle.np_rules.specs.Prelude.{pod_end}
use Rattle.np_flatten.proofs.PolicyFacts.{rule-made}
use Rattle.np_flatten.proofs.flat.Flat.rule_of.Goals as goal

pub returns : goal.returns
returns c =
    let peers = c.in_ok-push.ensures.ok ∙ ap (λ (all : List NetPeer). all ++ c.in_ok-peer_like.field-0 ∷ []) c.new-peers.ensures in
    rule-made c.args.self.now c.folded.result.now c.args.sender c.first.result c.args.set.now
    (pod_end c.first_pod-pod.result.now) c.keys.result.now c.in_ok-peer_like.field-0 c.push.new.self c.in_ok-ports.ports
    c.folded.ensures c.first.ensures.value c.first_pod-pod.ensures c.keys.ensures c.in_ok-peer_like.ensures peers c.in_ok-ports.ensures
