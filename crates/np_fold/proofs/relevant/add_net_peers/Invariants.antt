use Rattle.std.proofs.Common.{◌≡◌, drop, flat_map}
use Rattle.np_fold.specs.Prelude.{keys_of_net_peer, with_keys}
use Rattle.np_fold.proofs.relevant.add_net_peers.Given as goal

-- with the keys of those that are left they are all
abbrev pub invariant-loop-peer : goal.invariant-loop-peer
invariant-loop-peer l = with_keys l.keys.keys (flat_map keys_of_net_peer (drop l.peer-index l.peers)) ≡ with_keys l.fn.keys.keys (flat_map keys_of_net_peer l.peers)
