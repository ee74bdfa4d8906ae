-- The rows of a table. They are a function of the table alone.
use Rattle.std.specs.Prelude.{ℕ, ◌-◌, ◌^◌, List, [], ◌∷◌, ◌++◌, Bool, true, false, ◌&&◌, map, flat_map, length, Option, Some, None, if◌then◌else◌}
use Rattle.std.specs.List.{range_with_len}
use Rattle.np_table.specs.Types.{AddressRow, AddressSpan, Direction, Egress, Family, Ingress, PortSpot, Row, RowEnd, RowKey, Span, Work}
use Rattle.np_addr.specs.declared.address.Family.TheVariants as family
use Rattle.np_conns.specs.Prelude.{Conns, are_same_conns, conns_of}
use Rattle.np_table.specs.Right.{Stretch, walk}
use Rattle.np_table.specs.Table.{Table}
use Rattle.np_table.specs.declared.rows.AddressSpan.TheVariants as span

-- ---- pair rows

abbrev pub has_no_range : {X : Type 0} → List X → Bool
has_no_range [] = true
has_no_range (x ∷ xs) = false

-- whether no port of any protocol passes
abbrev pub is_nothing : Conns → Bool
is_nothing conns = has_no_range conns.tcp && has_no_range conns.udp && has_no_range conns.sctp

-- the row of some connections, where there are any
abbrev pub row_if : RowKey → Option Family → Conns → List Row
row_if key family conns = if is_nothing conns then [] else record { key = key; family = family; conns = conns } ∷ []

-- one row without a mark where the same connections pass in both families, else one for each with the family's mark
abbrev pub rows_of_both : RowKey → Conns → Conns → List Row
rows_of_both key four six =
    if are_same_conns four six then row_if key None four
    else row_if key (Some family.Four) four ++ row_if key (Some family.Six) six

-- one row without a mark where there is one family
abbrev pub rows_in : List Family → RowKey → (Family → Conns) → List Row
rows_in (one ∷ []) key conns = row_if key None (conns one)
rows_in families key conns = rows_of_both key (conns family.Four) (conns family.Six)

abbrev pub pair_key : ℕ → ℕ → RowKey
pair_key source destination = record { source = Work source; destination = Work destination }

-- the rows of a pair of workloads in the families of the list
unfoldable pub pair_rows : Table → ℕ → ℕ → List Row
pair_rows table source destination = rows_in table.families (pair_key source destination) (λ family. conns_of (table.pairs source destination family))

-- the numbers of the workloads
abbrev pub workloads : Table → List ℕ
workloads table = range_with_len 0 (length table.names)

-- the rows of all pairs, by source and then by destination
unfoldable pub all_pair_rows : Table → List Row
all_pair_rows table = flat_map (λ source. flat_map (pair_rows table source) (workloads table)) (workloads table)

-- ---- address rows

abbrev pub address_row : (Stretch → AddressSpan) → Stretch → AddressRow
address_row span_of stretch = record { span = span_of stretch; conns = stretch.conns }

abbrev pub four_of : Stretch → AddressSpan
four_of stretch = span.Four (record { lo = stretch.lo; hi = stretch.hi })

abbrev pub six_of : Stretch → AddressSpan
six_of stretch = span.Six (record { lo = stretch.lo; hi = stretch.hi })

-- By a test of addresses the fewest ranges of all of IPv4 such that the same passes at each address of one, and then
-- those of IPv6. Both families are there, whatever families the pods have.
abbrev pub rows_of_addresses : (Family → ℕ → PortSpot → Bool) → List AddressRow
rows_of_addresses passes =
    map (address_row four_of) (walk (passes family.Four) 0 (2 ^ 32 - 1))
    ++ map (address_row six_of) (walk (passes family.Six) 0 (2 ^ 128 - 1))

-- what passes between a workload and all addresses in a direction, ranges with which nothing passes among them
unfoldable pub address_rows : Table → ℕ → Direction → List AddressRow
address_rows table workload direction = rows_of_addresses (table.addresses workload direction)

-- in an ingress row the addresses are the source
abbrev pub key_of : ℕ → Direction → RowEnd → RowKey
key_of workload Ingress addresses = record { source = addresses; destination = Work workload }
key_of workload Egress addresses = record { source = Work workload; destination = addresses }

abbrev pub row_of : ℕ → Direction → AddressRow → Row
row_of workload direction row = record { key = key_of workload direction (Span row.span); family = None; conns = row.conns }

-- The rows of a workload and all addresses in a direction. A range with which nothing passes has a row too, of
-- `No Connections`; a pair of workloads between which nothing passes has none.
abbrev pub rows_towards : Table → ℕ → Direction → List Row
rows_towards table workload direction = map (row_of workload direction) (address_rows table workload direction)

-- the address rows of all workloads: ingress, and then egress
unfoldable pub all_address_rows : Table → List Row
all_address_rows table = flat_map (λ workload. rows_towards table workload Ingress ++ rows_towards table workload Egress) (workloads table)

-- ---- all of them

-- the pair rows, and then the address rows
abbrev pub all_rows : Table → List Row
all_rows table = all_pair_rows table ++ all_address_rows table
