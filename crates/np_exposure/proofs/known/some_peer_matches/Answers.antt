use Rattle.np_exposure.proofs.SettledLemmas.{any-next}
use Rattle.np_rules.specs.Prelude.{net_peer_matches, pod, stranger_end}
use Rattle.np_exposure.proofs.known.some_peer_matches.Goals as goal

pub loop-peer-preserved : goal.loop-peer-preserved
loop-peer-preserved c =
    any-next c.args.state.now (λ peer s. net_peer_matches c.args.namespace.now peer (pod (stranger_end s)))
    c.args.peers.now c.loop-peer.peer-index c.peer-item.result c.loop-peer-test.true c.peer-item.is
    c.loop-peer.answer c.peer_matches.result c.either-answer.result c.either-answer.ensures c.loop-peer.invariant c.peer_matches.ensures
