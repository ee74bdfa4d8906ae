-- The texts of a row.
use Rattle.std.specs.Prelude.{ℕ, List, [], ◌++◌, ◌==◌, codes, map, slice_index_or, Option, Some, None, if◌then◌else◌}
use Rattle.std.specs.List.{join_by}
use Rattle.np_addr.specs.Prelude.{address_text, cidr_text, range_prefixes}
use Rattle.np_report.specs.Types.{Controller, Family, Four, Range, Report, Row, RowEnd, RowText, Six, Span, Work}
use Rattle.np_addr.specs.declared.cidr.Cidr.{Cidr}
use Rattle.np_conns.specs.Prelude.{conns_text, has_spot}
use Rattle.np_fold.specs.Prelude.{Folding}
use Rattle.np_kinds.specs.Prelude.{address_numbered}
use Rattle.np_table.specs.declared.rows.AddressSpan.{AddressSpan}
use Rattle.np_table.specs.declared.rows.AddressSpan.TheVariants as span
use Rattle.np_args.specs.declared.report.Report.TheVariants.{One, Two}

-- ---- ranges of addresses

-- the first and the last address, or the one that there is
abbrev pub ends_text : Family → Range ℕ → List ℕ
ends_text family range = if range.lo == range.hi then address_text (address_numbered family range.lo)
    else address_text (address_numbered family range.lo) ++ codes "-" ++ address_text (address_numbered family range.hi)

-- the fewest blocks that have the addresses of a range and no other, in ascending order
abbrev pub blocks_of : AddressSpan → List Cidr
blocks_of (span.Four range) = range_prefixes Four range
blocks_of (span.Six range) = range_prefixes Six range

-- by its ends in report 1, and in report 2 by its blocks, joined by commas
abbrev pub span_text : Report → AddressSpan → List ℕ
span_text One (span.Four range) = ends_text Four range
span_text One (span.Six range) = ends_text Six range
span_text Two addresses = join_by cidr_text (codes ",") (blocks_of addresses)

-- ---- rows

-- a workload by its name
abbrev pub row_end_text : List (List ℕ) → Report → RowEnd → List ℕ
row_end_text names report (Work number) = slice_index_or names number []
row_end_text names report (Span addresses) = span_text report addresses
row_end_text names report Controller = codes "{ingress-controller}"

-- the mark of a row that is of one family of two
abbrev pub family_suffix : Option Family → List ℕ
family_suffix None = []
family_suffix (Some Four) = codes " (IPv4)"
family_suffix (Some Six) = codes " (IPv6)"

-- the names of the workloads of a folding
abbrev pub names_of : Folding → List (List ℕ)
names_of folding = map (λ one. one.name) folding.workloads

-- the ends of a row, where a mark may follow the destination, and the text of the spans of its connections
unfoldable pub row_text : List (List ℕ) → Report → Row → RowText
row_text names report row = record {
  source = row_end_text names report row.key.source;
  destination = row_end_text names report row.key.destination ++ family_suffix row.family;
  connections = conns_text (has_spot row.conns);
}
