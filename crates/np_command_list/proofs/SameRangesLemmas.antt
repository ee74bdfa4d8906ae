-- Two lists of rows that say what passes have the same rows of ranges of addresses. For OneTextLemmas.
use Rattle.std.proofs.Common.{◌≡◌, ◌≤◌, ◌+◌, ◌-◌, inl, inr, ℕ, List, [], ◌∷◌, Bool, true, ◌&&◌, nat_le, Contains, Option, arith, eq-eqb, refl, sym, ap, subst, ◌∙◌}
use Rattle.std.proofs.lemmas.Bool.{and_from, and_parts, cases_lt, false≢true, le-leb, leb-true}
use Rattle.std.proofs.Math.Bool.{and-true}
use Rattle.np_command_list.specs.Prelude.{AddressSpan, Controller, Direction, Egress, EstateLists, Family, Four, Ingress, IsAddressRow, IsPodOf, IsRowOf, PortSpot, Query, Range, Row, RowEnd, RowKey, SayWhatPasses, Six, Span, Work}
use Rattle.np_base.specs.Ranges.{is_within}
use Rattle.np_conns.specs.Prelude.{has_spot, is_spot}
use Rattle.np_rules.specs.Prelude.{pod, pod_at}
use Rattle.np_command_list.proofs.OneListLemmas.{AreToldAlike, from-kept, has-cases, has-head, kept, nothing-has}
use Rattle.np_command_list.proofs.SameRowsLemmas.{key-from, row-of}
use Rattle.np_report.specs.Prelude.{keeps}
use Rattle.np_table.specs.Prelude.{IsInFamily, OneRowSays, is_address, is_of_address, is_workload, key_of, rows_of_address, span_has}
use Rattle.np_kinds.specs.Prelude.{with_address}
use Rattle.np_table.specs.declared.rows.AddressSpan.TheVariants as span
use Rattle.np_table.proofs.RowLemmas.{is_workload-end}

-- ---- spans

-- the span of a range of a family
abbrev pub span_of : Family → Range ℕ → AddressSpan
span_of Four range = span.Four range
span_of Six range = span.Six range

span_has-is : (family : Family) (range : Range ℕ) (number : ℕ) → span_has (span_of family range) family number ≡ is_within (λ n. n) range number
span_has-is Four range number = refl
span_has-is Six range number = refl

-- an end that has an address is a span of its family
address-end : (family : Family) (number : ℕ) (end : RowEnd) → is_address family number end ≡ true → (range : Range ℕ) × (end ≡ Span (span_of family range)) × (is_within (λ n. n) range number ≡ true)
address-end Four number (Span (span.Four range)) is = (range, refl, is)
address-end Six number (Span (span.Four range)) is = absurd (false≢true is)
address-end Four number (Span (span.Six range)) is = absurd (false≢true is)
address-end Six number (Span (span.Six range)) is = (range, refl, is)
address-end family number (Work other) is = absurd (false≢true is)
address-end family number Controller is = absurd (false≢true is)

in_family-below : (family : Family) (high number : ℕ) → IsInFamily family high → number ≤ high → IsInFamily family number
in_family-below Four high number is below = omega (arith, is, below)
in_family-below Six high number is below = omega (arith, is, below)

-- a number is in a range
abbrev IsIn : Range ℕ → ℕ → Type 0
IsIn range number = (range.lo ≤ number) × (number ≤ range.hi)

within-from : (range : Range ℕ) (number : ℕ) → IsIn range number → is_within (λ n. n) range number ≡ true
within-from range number is = and_from (nat_le range.lo number) (nat_le number range.hi) (le-leb range.lo number is.0) (le-leb number range.hi is.1)

within-to : (range : Range ℕ) (number : ℕ) → is_within (λ n. n) range number ≡ true → IsIn range number
within-to range number is = let ends = and_parts (nat_le range.lo number) (nat_le number range.hi) is in (leb-true range.lo number ends.0, leb-true number range.hi ends.1)

same-range : (one other : Range ℕ) → one.lo ≡ other.lo → one.hi ≡ other.hi → one ≡ other
same-range one other low high = ap (λ (n : ℕ). record { lo = n; hi = one.hi }) low ∙ ap (λ (n : ℕ). record { lo = other.lo; hi = n }) high

-- ---- the keys of address rows

module _ (workload : ℕ) (family : Family) (range : Range ℕ) where
  -- the row of a range is of an address exactly where the range has it
  of_address-is : (direction : Direction) (number : ℕ) (row : Row) → row.key ≡ key_of workload direction (Span (span_of family range)) →
      is_of_address workload direction family number row ≡ is_within (λ n. n) range number
  of_address-is Ingress number row is =
      ap (λ (key : RowKey). is_address family number key.source && is_workload workload key.destination) is
      ∙ ap (λ (b : Bool). b && is_workload workload (Work workload)) (span_has-is family range number) ∙ ap (λ (b : Bool). is_within (λ n. n) range number && b) (eq-eqb workload workload refl)
      ∙ and-true (is_within (λ n. n) range number)
  of_address-is Egress number row is =
      ap (λ (key : RowKey). is_workload workload key.source && is_address family number key.destination) is
      ∙ ap (λ (b : Bool). b && span_has (span_of family range) family number) (eq-eqb workload workload refl) ∙ span_has-is family range number

-- a row of an address is of a range that has it
of_address-range : (workload : ℕ) (direction : Direction) (family : Family) (number : ℕ) (row : Row) → is_of_address workload direction family number row ≡ true →
    (range : Range ℕ) × (row.key ≡ key_of workload direction (Span (span_of family range))) × (is_within (λ n. n) range number ≡ true)
of_address-range workload Ingress family number row is =
    let ends = and_parts (is_address family number row.key.source) (is_workload workload row.key.destination) is in
    let far = address-end family number row.key.source ends.0 in
    (far.0, key-from row.key (Span (span_of family far.0)) (Work workload) far.1 (is_workload-end workload row.key.destination ends.1), far.2)
of_address-range workload Egress family number row is =
    let ends = and_parts (is_workload workload row.key.source) (is_address family number row.key.destination) is in
    let far = address-end family number row.key.destination ends.1 in
    (far.0, key-from row.key (Work workload) (Span (span_of family far.0)) (is_workload-end workload row.key.source ends.0) far.1, far.2)

-- the row of such a key is one of addresses
address-is : (lists : EstateLists) (workload : ℕ) (direction : Direction) (family : Family) (range : Range ℕ) (row : Row) →
    IsRowOf lists (key_of workload direction (Span (span_of family range))).source (key_of workload direction (Span (span_of family range))).destination row →
    IsAddressRow lists workload direction family range row
address-is lists workload Ingress Four range row is = is
address-is lists workload Ingress Six range row is = is
address-is lists workload Egress Four range row is = is
address-is lists workload Egress Six range row is = is

-- ---- the rows of a workload, a direction and a family

module _ (lists : EstateLists) (sender : Option ℕ) (query : Query) (workload : ℕ) (direction : Direction) (family : Family) (addresses : AddressSpan)
    (asked : keeps query (key_of workload direction (Span addresses)) ≡ true) where
  abbrev Says : List Row → Type 0
  Says rows = SayWhatPasses lists sender query rows

  -- a row of a list is of a range
  abbrev IsOf : List Row → Row → Range ℕ → Type 0
  IsOf rows row range = Contains rows row × (row.key ≡ key_of workload direction (Span (span_of family range)))

  range-is : (rows : List Row) → Says rows → (row : Row) (range : Range ℕ) → IsOf rows row range → IsAddressRow lists workload direction family range row
  range-is rows say row range of = address-is lists workload direction family range row (row-of lists sender query rows say row (key_of workload direction (Span (span_of family range))) of.0 of.1)

  -- for each address there is one row, which says what passes between it and a pod of the workload
  one-at : (rows : List Row) → Says rows → (p : ℕ) → IsPodOf lists workload p → (number : ℕ) → IsInFamily family number →
      OneRowSays workload direction family number rows (with_address lists direction (pod (pod_at lists p)) family number)
  one-at rows say p near number in_family =
      subst (λ (n : ℕ). OneRowSays n direction family number rows (with_address lists direction (pod (pod_at lists p)) family number)) near.1
      (say.addresses p direction family number addresses near.0 in_family (ap (λ (n : ℕ). keeps query (key_of n direction (Span addresses))) near.1 ∙ asked))

  -- it is every row of a range that has the address
  is-one : (rows : List Row) (row one : Row) (range : Range ℕ) (number : ℕ) → IsOf rows row range → IsIn range number → rows_of_address workload direction family number rows ≡ one ∷ [] → one ≡ row
  is-one rows row one range number of within only =
      let own = of_address-is workload family range direction number row of.1 ∙ within-from range number within in
      let among = subst (λ (found : List Row). Contains found row) only (kept (is_of_address workload direction family number) rows row of.0 own) in
      elim (has-cases one row [] among) [
        | inl same ↦ same
        | inr none ↦ absurd (nothing-has row none)
      ]

  -- and is of a range that has it
  one-range : (rows : List Row) (one : Row) (number : ℕ) → rows_of_address workload direction family number rows ≡ one ∷ [] → (range : Range ℕ) × IsOf rows one range × IsIn range number
  one-range rows one number only =
      let among = from-kept (is_of_address workload direction family number) rows one (subst (λ (found : List Row). Contains found one) (sym only) (has-head one [])) in
      let found = of_address-range workload direction family number one among.1 in
      (found.0, (among.0, found.1), within-to found.0 number found.2)

  -- a row says what passes at each number of its range
  says-at : (rows : List Row) → Says rows → (row : Row) (range : Range ℕ) (of : IsOf rows row range) (p : ℕ) → IsPodOf lists workload p → (number : ℕ)
      → IsIn range number → (spot : PortSpot) → is_spot spot ≡ true →
      has_spot row.conns spot ≡ with_address lists direction (pod (pod_at lists p)) family number spot
  says-at rows say row range of p near number within spot in_space =
      let is = range-is rows say row range of in
      let one = one-at rows say p near number (in_family-below family range.hi number is.within within.1) in
      ap (λ (found : Row). has_spot found.conns spot) (sym (is-one rows row one.0 range number of within one.1)) ∙ one.2 spot in_space

  -- ranges of two lists that have a number in common end where one of them does
  no-longer : (rows others : List Row) → Says rows → Says others → (row other : Row) (range range' : Range ℕ) → IsOf rows row range → IsOf others other range' → (number : ℕ) → IsIn range number →
      IsIn range' number → range.hi ≤ range'.hi
  no-longer rows others say say' row other range range' of of' number within within' =
      let is = range-is rows say row range of in
      let is' = range-is others say' other range' of' in
      let low = within.0 in
      let low' = within'.0 in
      let high' = within'.1 in
      elim (cases_lt range'.hi range.hi) [
        | inl longer ↦
            absurd (is'.changes (in_family-below family range.hi (range'.hi + 1) is.within (omega (arith, longer))) (λ spot in_space.
            says-at others say' other range' of' is'.p is'.near range'.hi (omega (arith, low', high'), omega arith) spot in_space
            ∙ sym (says-at rows say row range of is'.p is'.near range'.hi (omega (arith, low, high'), omega (arith, longer)) spot in_space)
            ∙ says-at rows say row range of is'.p is'.near (range'.hi + 1) (omega (arith, low, high'), omega (arith, longer)) spot in_space))
        | inr within_it ↦ within_it
      ]

  -- and begin where one of them does
  no-earlier : (rows others : List Row) → Says rows → Says others → (row other : Row) (range range' : Range ℕ) → IsOf rows row range → IsOf others other range'
      → IsIn range' range.lo → range.lo ≤ range'.lo
  no-earlier rows others say say' row other range range' of of' within =
      let is = range-is rows say row range of in
      let high = within.1 in
      let filled = is.filled in
      elim (cases_lt range'.lo range.lo) [
        | inl earlier ↦
            let before = range.lo - 1 in
            let one = one-at rows say is.p is.near before (in_family-below family range.hi before is.within (omega (arith, filled))) in
            let found = one-range rows one.0 before one.1 in
            let from = found.2.0 in
            let upto = found.2.1 in
            elim (cases_lt found.0.hi range.lo) [
              | inl apart ↦
                  let longer = no-longer others rows say' say other one.0 range' found.0 of' found.1 before (omega (arith, earlier), omega (arith, high, earlier)) (from, upto) in
                  absurd (omega (arith, longer, apart, high))
              | inr together ↦
                  let at = one-at rows say is.p is.near range.lo (in_family-below family range.hi range.lo is.within filled) in
                  let first : at.0 ≡ row = is-one rows row at.0 range range.lo of (omega arith, filled) at.1 in
                  let second : at.0 ≡ one.0 = is-one rows one.0 at.0 found.0 range.lo found.1 (omega (arith, from, earlier), together) at.1 in
                  let same : one.0 ≡ row = sym second ∙ first in
                  let has = of_address-is workload family found.0 direction before one.0 found.1.1 ∙ within-from found.0 before (from, upto) in
                  let has' = within-to range before (sym (of_address-is workload family range direction before row of.1) ∙ ap (is_of_address workload direction family before) (sym same) ∙ has) in
                  let low' = has'.0 in
                  absurd (omega (arith, low', earlier))
            ]
        | inr behind ↦ behind
      ]

  -- so each row of a range is told as one of the other list
  pub range-among : (rows others : List Row) → Says rows → Says others → (row : Row) (range : Range ℕ) → IsOf rows row range → (other : Row) × Contains others other × AreToldAlike row other
  range-among rows others say say' row range of =
      let is = range-is rows say row range of in
      let filled = is.filled in
      let one = one-at others say' is.p is.near range.lo (in_family-below family range.hi range.lo is.within filled) in
      let found = one-range others one.0 range.lo one.1 in
      let of' = found.1 in
      let from = found.2.0 in
      let upto = found.2.1 in
      let is' = range-is others say' one.0 found.0 of' in
      let longer = no-longer rows others say say' row one.0 range found.0 of of' range.lo (omega arith, filled) (from, upto) in
      let shorter = no-longer others rows say' say one.0 row found.0 range of' of range.lo (from, upto) (omega arith, filled) in
      let earlier = no-earlier rows others say say' row one.0 range found.0 of of' (from, upto) in
      let same : range ≡ found.0 = same-range range found.0 (omega (arith, earlier, from)) (omega (arith, longer, shorter)) in (
        one.0,
        of'.0,
        record {
          key = of.1 ∙ ap (λ (one : Range ℕ). key_of workload direction (Span (span_of family one))) same ∙ sym of'.1;
          family = is.unmarked ∙ sym is'.unmarked;
          ports = λ spot in_space. says-at rows say row range of is.p is.near range.lo (omega arith, filled) spot in_space ∙ sym (one.2 spot in_space);
        },
      )
