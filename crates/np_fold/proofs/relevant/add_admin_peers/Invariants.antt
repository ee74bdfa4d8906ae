use Rattle.std.proofs.Common.{◌≡◌, drop, flat_map, map}
use Rattle.np_fold.specs.Prelude.{keys_of_admin_peer, with_keys}
use Rattle.np_fold.proofs.relevant.add_admin_peers.Given as goal
use Rattle.np_model.specs.Prelude.{admin_peers}

-- with the keys of those that are left they are all
abbrev pub invariant-loop-peer : goal.invariant-loop-peer
invariant-loop-peer l = with_keys l.keys.keys (flat_map keys_of_admin_peer (map (λ peer. peer.now) (drop l.peer-index l.peer-items)))
    ≡ with_keys l.fn.keys.keys (flat_map keys_of_admin_peer (admin_peers l.estate.admin_policies l.estate.baseline))
