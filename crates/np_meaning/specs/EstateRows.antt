-- The rows that may be told of an estate.
use Rattle.std.specs.Prelude.{◌≤◌, ℕ, ⊤}
use Rattle.np_meaning.specs.Types.{AddressSpan, Controller, EstateLists, Family, Range, Row, RowEnd, Span, Work}
use Rattle.np_addr.specs.declared.address.Family.TheVariants as family
use Rattle.np_conns.specs.Prelude.{IsConns}
use Rattle.np_table.specs.Prelude.{IsInFamily}
use Rattle.np_kinds.specs.Prelude.{IsWorkload}
use Rattle.np_table.specs.declared.rows.AddressSpan.TheVariants as span

-- a range that has an address, and none but those of the family
abbrev pub IsRangeOf : Family → Range ℕ → Type 0
IsRangeOf family range = (range.lo ≤ range.hi) × IsInFamily family range.hi

abbrev pub IsSpan : AddressSpan → Type 0
IsSpan (span.Four range) = IsRangeOf family.Four range
IsSpan (span.Six range) = IsRangeOf family.Six range

-- a workload of the estate, a range of addresses, or the controller of Ingresses
abbrev pub IsEndOf : EstateLists → RowEnd → Type 0
IsEndOf lists (Work number) = IsWorkload lists number
IsEndOf lists (Span addresses) = IsSpan addresses
IsEndOf lists Controller = ⊤

pub record IsRowOf (lists : EstateLists) (row : Row) : Type 0 where
  pub source : IsEndOf lists row.key.source
  pub destination : IsEndOf lists row.key.destination
  pub conns : IsConns row.conns
