use Rattle.std.proofs.Common.{◌≡◌, ◌==◌, true, take}
use Rattle.std.specs.List.{list_any}
use Rattle.np_conns.specs.Prelude.{same_proto}
use Rattle.np_rules.specs.Prelude.{PortSpot, is_named}
use Rattle.np_rules.proofs.port_sets.numbers_named.Given as goal

-- those gathered so far are the numbers of the ports of that name and protocol so far
abbrev pub invariant-loop-port : goal.invariant-loop-port
invariant-loop-port l = (spot : PortSpot) → same_proto spot.proto l.proto ≡ true → list_any (λ number. number == spot.port) l.numbers.items ≡ list_any
    (is_named l.name spot) (take l.port-index l.ports)
