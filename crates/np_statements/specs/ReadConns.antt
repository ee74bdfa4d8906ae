-- The set of connections that a text writes. No two sets have one text, so it is sought among all sets.
use Rattle.std.specs.Prelude.{ℕ, zero, suc, ◌+◌, List, [], ◌∷◌, ◌++◌, map, flat_map, Option}
use Rattle.std.specs.List.{find}
use Rattle.std.specs.Str.{bytes_eq}
use Rattle.np_statements.specs.Types.{Range}
use Rattle.np_conns.specs.Prelude.{Conns, conns_text, has_spot, onto_runs}

-- the runs of every choice among so many ports from one on: the first port is left out, or put before the runs of those above it
unfoldable pub choices : ℕ → ℕ → List (List (Range ℕ))
choices first zero = [] ∷ []
choices first (suc count) = let above = choices (first + 1) count in above ++ map (onto_runs first) above

-- the runs of every choice among all ports, which are 1 to 65535
unfoldable pub all_runs : List (List (Range ℕ))
all_runs = choices 1 65535

-- every set of connections
unfoldable pub all_conns : List Conns
all_conns = flat_map (λ tcp. flat_map (λ udp. map (λ sctp. record { tcp = tcp; udp = udp; sctp = sctp }) all_runs) all_runs) all_runs

-- the one whose text it is
unfoldable pub conns_read : List ℕ → Option Conns
conns_read text = find (λ conns. bytes_eq text (conns_text (has_spot conns))) all_conns
