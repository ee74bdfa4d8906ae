-- The order in which rows stand.
use Rattle.std.specs.Prelude.{◌≡◌, ℕ, List, [], ◌∷◌, Option, Some, None}
use Rattle.std.specs.Cmp.Lexicographic.{slice_cmp}
use Rattle.std.specs.Ordering.{nat_cmp}
use Rattle.std.specs.declared.cmp.Ordering.TheVariants.{Less}
use Rattle.np_command_list.specs.Types.{AddressSpan, Controller, Family, Four, Row, RowEnd, Six, Span, Work}
use Rattle.np_table.specs.declared.rows.AddressSpan.TheVariants as span

-- a row without a mark, then that of IPv4, then that of IPv6
abbrev pub mark_rank : Option Family → ℕ
mark_rank None = 0
mark_rank (Some Four) = 1
mark_rank (Some Six) = 2

-- IPv4 before IPv6, and ranges of one family by their first addresses
abbrev pub span_rank : AddressSpan → List ℕ
span_rank (span.Four range) = 0 ∷ range.lo ∷ []
span_rank (span.Six range) = 1 ∷ range.lo ∷ []

-- Pair rows by source, destination and mark; then address rows by workload, ingress before egress, and by range; then Ingress
-- rows by workload.
abbrev pub row_rank_of : RowEnd → RowEnd → Option Family → List ℕ
row_rank_of (Work source) (Work destination) mark = 0 ∷ source ∷ destination ∷ mark_rank mark ∷ []
row_rank_of (Span addresses) (Work destination) mark = 1 ∷ destination ∷ 0 ∷ span_rank addresses
row_rank_of (Work source) (Span addresses) mark = 1 ∷ source ∷ 1 ∷ span_rank addresses
row_rank_of Controller (Work destination) mark = 2 ∷ destination ∷ []
row_rank_of source destination mark = []

abbrev pub row_rank : Row → List ℕ
row_rank row = row_rank_of row.key.source row.key.destination row.family

-- where the ranks of two rows first differ, the first row has the lower number
abbrev pub ComesBefore : Row → Row → Type 0
ComesBefore row next = slice_cmp nat_cmp (row_rank row) (row_rank next) ≡ Less
