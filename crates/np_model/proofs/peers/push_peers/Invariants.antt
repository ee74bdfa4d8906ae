use Rattle.std.proofs.Common.{◌≡◌, ◌++◌, flat_map, map, take}
use Rattle.np_model.proofs.peers.push_peers.Given as goal

-- the peers of the rules so far stand last
abbrev pub invariant-loop-rule : goal.invariant-loop-rule
invariant-loop-rule l = map (λ peer. peer.now) l.peers.items ≡ map (λ peer. peer.now) l.initial.peers.items ++ flat_map (λ rule. rule.peers) (take l.rule-index l.rules)
