use Rattle.std.proofs.Common.{◌≡◌, true, take}
use Rattle.std.specs.List.{list_any}
use Rattle.np_conns.specs.Prelude.{has_spot, is_spot}
use Rattle.np_routes.specs.Prelude.{PortSpot}
use Rattle.np_routes.proofs.senders.sent_in_some.Given as goal
use Rattle.np_kinds.specs.Prelude.{between_pods}

-- what may be sent in some of the families so far
abbrev pub invariant-loop-family : goal.invariant-loop-family
invariant-loop-family l = (spot : PortSpot) → is_spot spot ≡ true →
    list_any (λ set. has_spot set spot) l.sets.items ≡ list_any (λ family. between_pods l.fn.sender.lists l.fn.sender.pod l.fn.receiver.pod family spot) (take l.family-index l.fn.families)
