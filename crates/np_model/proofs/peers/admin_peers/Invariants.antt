use Rattle.std.proofs.Common.{◌≡◌, ◌++◌, flat_map, map, take}
use Rattle.np_model.proofs.peers.admin_peers.Given as goal

-- the peers of the policies so far
abbrev pub invariant-loop-policy : goal.invariant-loop-policy
invariant-loop-policy l = map (λ peer. peer.now) l.peers.items ≡ flat_map (λ rule. rule.peers) (flat_map (λ policy. policy.ingress ++ policy.egress) (take l.policy-index l.policies))
