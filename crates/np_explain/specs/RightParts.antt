-- The right parts, made from what decides each spot.
use mathlib.Core.Bool.{beq}
use Rattle.std.specs.Prelude.{ℕ, List, [], ◌∷◌, map, filter, Bool, true, false, ◌&&◌, not, ◌==◌}
use Rattle.std.specs.Cmp.Lexicographic.{pointwise}
use Rattle.std.specs.List.{flat_map, range_with_len}
use Rattle.std.specs.Option.{option_eq}
use Rattle.std.specs.Str.{bytes_eq}
use Rattle.np_conns.specs.Prelude.{conns_of}
use Rattle.np_explain.specs.Types.{Admin, Base, Decider, Free, Isolated, Net, NoSide, Part, PortSpot, Proto, RuleName, Sctp, Tcp, Udp}

-- ---- all spots in order

-- those of a protocol at so many ports, from a first port on
unfoldable pub spots_from : Proto → ℕ → ℕ → List PortSpot
spots_from proto first count = map (λ port. record { proto = proto; port = port }) (range_with_len first count)

-- those of TCP, of UDP and of SCTP, and each protocol's by their ports, which are 1 to 65535
unfoldable pub all_spots : List PortSpot
all_spots = flat_map (λ proto. spots_from proto 1 65535) (Tcp ∷ Udp ∷ Sctp ∷ [])

-- ---- whether two deciders are one

abbrev pub same_rule : RuleName → RuleName → Bool
same_rule a b = bytes_eq a.policy b.policy && a.place == b.place

unfoldable pub same_decider : Decider → Decider → Bool
same_decider NoSide NoSide = true
same_decider (Admin rule allow) (Admin other allows) = same_rule rule other && beq allow allows
same_decider (Net pass rule) (Net passed other) = option_eq same_rule pass passed && same_rule rule other
same_decider (Isolated pass policies) (Isolated passed others) = option_eq same_rule pass passed && pointwise bytes_eq policies others
same_decider (Base pass rule allow) (Base passed other allows) = option_eq same_rule pass passed && same_rule rule other && beq allow allows
same_decider (Free pass) (Free passed) = option_eq same_rule pass passed
same_decider one another = false

-- ---- the parts

-- each decider of the list once, where it stands first
unfoldable pub each_decider_once : List Decider → List Decider
each_decider_once [] = []
each_decider_once (decider ∷ others) = decider ∷ filter (λ other. not (same_decider decider other)) (each_decider_once others)

-- a decider with exactly the spots that it decides
abbrev pub part_of : (PortSpot → Decider) → Decider → Part
part_of decides decider = record { decider = decider; conns = conns_of (λ spot. same_decider (decides spot) decider) }

-- The deciders of all spots, each once, in the order of the first spot that each decides; with each of them what it decides.
unfoldable pub parts_of : (PortSpot → Decider) → List Part
parts_of decides = map (part_of decides) (each_decider_once (map decides all_spots))
