-- What rows say.
use Rattle.std.specs.Prelude.{◌≡◌, ◌≤◌, ◌-◌, ◌^◌, ℕ, List, [], ◌∷◌, Bool, true, false, ◌&&◌, ◌==◌, filter, Option, None}
use Rattle.std.specs.List.{list_any}
use Rattle.std.specs.Option.{option_map_or}
use Rattle.np_table.specs.Types.{AddressSpan, Direction, Egress, Family, Ingress, PortSpot, Row, RowEnd, Span, Work}
use Rattle.np_addr.specs.declared.address.Family.TheVariants as family
use Rattle.np_base.specs.Ranges.{is_within}
use Rattle.np_conns.specs.Prelude.{has_spot, is_spot}
use Rattle.np_model.specs.Prelude.{same_family}
use Rattle.np_table.specs.declared.rows.AddressSpan.TheVariants as span

-- whether a mark speaks of a family: a row without a mark speaks of every one
abbrev pub speaks_of : Option Family → Family → Bool
speaks_of mark family = option_map_or (λ one. same_family one family) mark true

-- whether a row says that a port passes in a family
abbrev pub says : Family → PortSpot → Row → Bool
says family spot row = speaks_of row.family family && has_spot row.conns spot

-- whether some row of a list says so
abbrev pub allows_in : List Row → Family → PortSpot → Bool
allows_in rows family spot = list_any (says family spot) rows

-- ---- rows between workloads

-- whether an end of a row is the workload of the number
abbrev pub is_workload : ℕ → RowEnd → Bool
is_workload number (Work other) = other == number
is_workload number end = false

-- whether a row is from one workload to another
abbrev pub is_between : ℕ → ℕ → Row → Bool
is_between source destination row = is_workload source row.key.source && is_workload destination row.key.destination

-- the rows of a list that are from one workload to another
abbrev pub rows_between : ℕ → ℕ → List Row → List Row
rows_between source destination rows = filter (is_between source destination) rows

-- the row has no mark
abbrev pub IsUnmarked : Row → Type 0
IsUnmarked row = row.family ≡ None

-- the same ports pass by two tests
abbrev pub AllowSamePorts : (PortSpot → Bool) → (PortSpot → Bool) → Type 0
AllowSamePorts passes passes' = (spot : PortSpot) → is_spot spot ≡ true → passes spot ≡ passes' spot

-- ---- rows of an address

-- the number is that of an address of the family
abbrev pub IsInFamily : Family → ℕ → Type 0
IsInFamily family.Four number = number ≤ 2 ^ 32 - 1
IsInFamily family.Six number = number ≤ 2 ^ 128 - 1

-- whether a span has the address of a family and a number
abbrev pub span_has : AddressSpan → Family → ℕ → Bool
span_has (span.Four range) family.Four number = is_within (λ n. n) range number
span_has (span.Six range) family.Six number = is_within (λ n. n) range number
span_has one another number = false

-- whether an end of a row is a span that has it
abbrev pub is_address : Family → ℕ → RowEnd → Bool
is_address family number (Span addresses) = span_has addresses family number
is_address family number end = false

-- whether a row is of the address and the workload: from the address in the direction of ingress, and to it in that of egress
abbrev pub is_of_address : ℕ → Direction → Family → ℕ → Row → Bool
is_of_address workload Ingress family number row = is_address family number row.key.source && is_workload workload row.key.destination
is_of_address workload Egress family number row = is_workload workload row.key.source && is_address family number row.key.destination

-- the rows of a list that are of the address and the workload
abbrev pub rows_of_address : ℕ → Direction → Family → ℕ → List Row → List Row
rows_of_address workload direction family number rows = filter (is_of_address workload direction family number) rows

-- exactly one row of a list is of them, and by it exactly those ports pass that the test lets pass
abbrev pub OneRowSays : ℕ → Direction → Family → ℕ → List Row → (PortSpot → Bool) → Type 0
OneRowSays workload direction family number rows passes = (row : Row) × (rows_of_address workload direction family number rows ≡ row ∷ [])
    × ((spot : PortSpot) → is_spot spot ≡ true → has_spot row.conns spot ≡ passes spot)
