use Rattle.std.proofs.Common.{◌≡◌, drop, map}
use Rattle.std.specs.List.{list_any}
use Rattle.np_model.specs.Prelude.{is_networks}
use Rattle.np_reading.proofs.left_out.list_networks.Given as goal

-- some peer lists networks exactly where one of those that are left does
abbrev pub invariant-loop-peer : goal.invariant-loop-peer
invariant-loop-peer l = list_any is_networks (map (λ peer. peer.now) (drop l.peer-index l.peers)) ≡ list_any is_networks (map (λ peer. peer.now) l.peers)
