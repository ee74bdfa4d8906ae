-- What each row of a list is of.
use Rattle.std.specs.Prelude.{◌≡◌, ◌≢◌, ◌<◌, ◌≤◌, ◌+◌, ◌↔◌, ℕ, None, true, length, Contains}
use Rattle.np_command_list.specs.Types.{AddressSpan, Controller, Direction, Egress, EstateLists, Family, Four, Ingress, PortSpot, Range, Row, RowEnd, Six, Span, Work}
use Rattle.np_conns.specs.Prelude.{Conns, has_spot, is_spot}
use Rattle.np_fold.specs.Prelude.{workload_number}
use Rattle.np_model.specs.Prelude.{families_of}
use Rattle.np_rules.specs.Prelude.{pod, pod_at}
use Rattle.np_table.specs.Prelude.{AllowSamePorts, IsInFamily}
use Rattle.np_kinds.specs.Prelude.{between_pods, with_address}
use Rattle.np_table.specs.declared.rows.AddressSpan.TheVariants as span

-- a pod, by its place, is of the workload of a number
abbrev pub IsPodOf : EstateLists → ℕ → ℕ → Type 0
IsPodOf lists workload p = (p < length lists.pods) × (workload_number lists p ≡ workload)

-- some port passes
abbrev pub LetSomePass : Conns → Type 0
LetSomePass conns = (spot : PortSpot) × (is_spot spot ≡ true) × (has_spot conns spot ≡ true)

-- from one pod to another the model allows the same ports in each family of the list
abbrev pub AgreeInFamilies : EstateLists → ℕ → ℕ → Type 0
AgreeInFamilies lists p q = (one other : Family) → Contains (families_of lists.pods) one → Contains (families_of lists.pods) other
    → AllowSamePorts (between_pods lists p q one) (between_pods lists p q other)

-- A row between workloads is of two different pods of them. Some port passes, and the row has a mark, which is its family, exactly
-- where the families differ.
pub record IsPairRow (lists : EstateLists) (source destination : ℕ) (row : Row) : Type 0 where
  pub p : ℕ
  pub q : ℕ
  pub sender : IsPodOf lists source p
  pub receiver : IsPodOf lists destination q
  pub apart : p ≢ q
  pub some : LetSomePass row.conns
  pub mark : (row.family ≡ None) ↔ AgreeInFamilies lists p q

-- A row of a range of addresses is of a pod, and the range is not empty. At the address behind the range, where there is one, the
-- model allows other ports than in it. It stands even where no port passes, as `No Connections`.
pub record IsAddressRow (lists : EstateLists) (workload : ℕ) (direction : Direction) (family : Family) (range : Range ℕ) (row : Row) : Type 0 where
  pub p : ℕ
  pub near : IsPodOf lists workload p
  pub filled : range.lo ≤ range.hi
  pub within : IsInFamily family range.hi
  pub unmarked : row.family ≡ None
  pub changes : IsInFamily family (range.hi + 1) → AllowSamePorts (has_spot row.conns) (with_address lists direction (pod (pod_at lists p)) family (range.hi + 1)) → ⊥

abbrev pub IsSpanRow : EstateLists → ℕ → Direction → AddressSpan → Row → Type 0
IsSpanRow lists workload direction (span.Four range) row = IsAddressRow lists workload direction Four range row
IsSpanRow lists workload direction (span.Six range) row = IsAddressRow lists workload direction Six range row

-- a row from the controller of Ingresses is of a pod, and some port passes
pub record IsIngressRow (lists : EstateLists) (workload : ℕ) (row : Row) : Type 0 where
  pub p : ℕ
  pub receiver : IsPodOf lists workload p
  pub unmarked : row.family ≡ None
  pub some : LetSomePass row.conns

-- a row between two ends is one of these
abbrev pub IsRowOf : EstateLists → RowEnd → RowEnd → Row → Type 0
IsRowOf lists (Work source) (Work destination) row = IsPairRow lists source destination row
IsRowOf lists (Span addresses) (Work destination) row = IsSpanRow lists destination Ingress addresses row
IsRowOf lists (Work source) (Span addresses) row = IsSpanRow lists source Egress addresses row
IsRowOf lists Controller (Work destination) row = IsIngressRow lists destination row
IsRowOf lists source destination row = ⊥
