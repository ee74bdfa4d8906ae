-- What is kept of the rows of sides: their texts without the name of a workload, so that they serve for each side that is the same.
use Rattle.std.specs.Prelude.{◌≡◌, ◌<◌, ℕ, List, length, map}
use Rattle.np_command_exposure.specs.Types.{Direction, Egress, EstateLists, ExposureRow, Ingress, KnownSide, PeerRow, RowText}
use Rattle.np_conns.specs.Prelude.{conns_text, has_spot}
use Rattle.np_exposure.specs.Prelude.{peer_text, rows_of}
use Rattle.np_rules.specs.Prelude.{PodSide, side_of}

-- the texts of a row that do not name the workload
abbrev pub peer_row : ExposureRow → PeerRow
peer_row row = record { peer = peer_text row.requirements; connections = conns_text (has_spot row.conns) }

abbrev pub peer_rows : PodSide → List PeerRow
peer_rows side = map peer_row (rows_of side)

-- with the name of the workload: before the name stand those that it is sent by, and behind it those that it sends to
abbrev pub named_row : List ℕ → Direction → PeerRow → RowText
named_row name Ingress row = record { source = row.peer; destination = name; connections = row.connections }
named_row name Egress row = record { source = name; destination = row.peer; connections = row.connections }

-- the texts are those of the rows of the side of the pod, which is one of the estate
pub record IsKnown (lists : EstateLists) (known : KnownSide) : Type 0 where
  pub there : known.pod < length lists.pods
  pub right : known.rows ≡ peer_rows (side_of lists known.pod known.direction)
