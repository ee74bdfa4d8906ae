-- The first of a list, and the first protocol and port that pass a test.
use Rattle.std.specs.Prelude.{ℕ, List, [], ◌∷◌, Bool, Option, None, option_map}
use Rattle.std.specs.List.{find, range_with_len}
use Rattle.std.specs.Option.{option_or}
use Rattle.np_check.specs.Types.{PortSpot, Proto, Sctp, Tcp, Udp}

-- what the first of a list gives that gives something
abbrev pub first_given : {X Y : Type 0} → (X → Option Y) → List X → Option Y
first_given gives [] = None
first_given gives (x ∷ xs) = option_or (gives x) (first_given gives xs)

-- the first of so many ports of a protocol, from one on, that passes
unfoldable pub first_of_ports : (PortSpot → Bool) → Proto → ℕ → ℕ → Option PortSpot
first_of_ports passes proto first count = option_map (λ port. record { proto = proto; port = port }) (find (λ port. passes (record { proto = proto; port = port })) (range_with_len first count))

-- of all ports, which are 1 to 65535
abbrev pub first_of_proto : (PortSpot → Bool) → Proto → Option PortSpot
first_of_proto passes proto = first_of_ports passes proto 1 65535

-- the first of all: TCP, UDP, SCTP, and each protocol's by their ports
unfoldable pub first_spot : (PortSpot → Bool) → Option PortSpot
first_spot passes = first_given (first_of_proto passes) (Tcp ∷ Udp ∷ Sctp ∷ [])
