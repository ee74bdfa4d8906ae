-- The text of connections, for a test of spots.
use Rattle.std.specs.Prelude.{ℕ, List, [], ◌∷◌, ◌++◌, Bool, false, ◌&&◌, if◌then◌else◌, ◌==◌, codes, decimal, Option}
use Rattle.std.specs.Cmp.Lexicographic.{pointwise}
use Rattle.std.specs.List.{join_by}
use Rattle.std.specs.Map.{lookup}
use Rattle.std.specs.Str.{bytes_eq}
use Rattle.np_base.specs.Ranges.{are_same_range}
use Rattle.np_conns.specs.Types.{PortSpot, Proto, Range, Sctp, Tcp, Udp}
use Rattle.np_conns.specs.Runs.{runs}
use Rattle.np_conns.specs.Conns.{Conns}

abbrev pub proto_name : Proto → List ℕ
proto_name Tcp = codes "TCP"
proto_name Udp = codes "UDP"
proto_name Sctp = codes "SCTP"

-- the protocol of a name
abbrev pub proto_named : List ℕ → Option Proto
proto_named name = lookup (bytes_eq name) ((codes "TCP", Tcp) ∷ (codes "UDP", Udp) ∷ (codes "SCTP", Sctp) ∷ [])

-- a run of one port is the port, a longer one is `lo-hi`
abbrev pub run_text : Range ℕ → List ℕ
run_text run = if run.lo == run.hi then decimal run.lo else decimal run.lo ++ codes "-" ++ decimal run.hi

-- a protocol's name, a space, and its runs joined by commas
abbrev pub part_text : Proto → List (Range ℕ) → List ℕ
part_text proto ranges = proto_name proto ++ codes " " ++ join_by run_text (codes ",") ranges

-- the protocol's part, if it has a port
abbrev pub part : Proto → List (Range ℕ) → List (List ℕ)
part proto [] = []
part proto (run ∷ others) = part_text proto (run ∷ others) ∷ []

-- the parts, joined by `; ` where there are some
abbrev pub joined : List (List ℕ) → List ℕ
joined [] = codes "No Connections"
joined (first ∷ others) = join_by (λ text. text) (codes "; ") (first ∷ others)

-- whether the runs are the one run of all ports
abbrev pub is_whole : List (Range ℕ) → Bool
is_whole [] = false
is_whole (run ∷ others) = run.lo == 1 && run.hi == 65535

-- the text of the runs of each protocol: that of the whole space, or the parts in the order TCP, UDP, SCTP
abbrev pub text_of_runs : List (Range ℕ) → List (Range ℕ) → List (Range ℕ) → List ℕ
text_of_runs tcp udp sctp = if is_whole tcp && is_whole udp && is_whole sctp then codes "All Connections"
    else joined (part Tcp tcp ++ part Udp udp ++ part Sctp sctp)

-- the runs of those ports of one protocol whose spots pass
abbrev pub spans_of : (PortSpot → Bool) → Proto → List (Range ℕ)
spans_of passes proto = runs (λ port. passes (record { proto = proto; port = port }))

-- the text of the spots that pass
unfoldable pub conns_text : (PortSpot → Bool) → List ℕ
conns_text passes = text_of_runs (spans_of passes Tcp) (spans_of passes Udp) (spans_of passes Sctp)

-- the maximal runs of those ports of each protocol whose spots pass
abbrev pub conns_of : (PortSpot → Bool) → Conns
conns_of passes = record { tcp = spans_of passes Tcp; udp = spans_of passes Udp; sctp = spans_of passes Sctp }

-- whether two sets have the same runs of each protocol
abbrev pub are_same_conns : Conns → Conns → Bool
are_same_conns a b = pointwise are_same_range a.tcp b.tcp && pointwise are_same_range a.udp b.udp && pointwise are_same_range a.sctp b.sctp
