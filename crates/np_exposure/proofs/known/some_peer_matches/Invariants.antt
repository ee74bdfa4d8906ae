use Rattle.std.proofs.Common.{take}
use Rattle.std.specs.List.{list_any}
use Rattle.np_exposure.specs.Prelude.{IsSettled}
use Rattle.np_rules.specs.Prelude.{net_peer_matches, pod, stranger_end}
use Rattle.np_exposure.proofs.known.some_peer_matches.Given as goal

-- whether some of the peers so far matches
abbrev pub invariant-loop-peer : goal.invariant-loop-peer
invariant-loop-peer l = IsSettled l.state (λ s. list_any (λ peer. net_peer_matches l.namespace peer (pod (stranger_end s))) (take l.peer-index l.peers)) l.answer
