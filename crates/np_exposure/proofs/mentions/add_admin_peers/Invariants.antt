use Rattle.std.proofs.Common.{◌≡◌, ◌++◌, flat_map, take}
use Rattle.np_exposure.specs.Prelude.{of_admin_peer}
use Rattle.np_exposure.proofs.mentions.add_admin_peers.Given as goal

abbrev pub invariant-loop-peer : goal.invariant-loop-peer
invariant-loop-peer l = l.made.items ≡ l.fn.made.items ++ flat_map of_admin_peer (take l.peer-index l.peers)
