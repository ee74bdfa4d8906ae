-- The first address with which a workload breaks a statement, by ranges and by single addresses. For `first_broken`.
use Rattle.std.proofs.Common.{◌≡◌, ℕ, zero, suc, ◌+◌, ◌-◌, ◌^◌, ◌<◌, ◌≤◌, List, [], ◌∷◌, Bool, true, false, Option, Some, None, map, option_map, refl, sym, ap, ◌∙◌, inl, inr, arith, if◌then◌else◌}
use Rattle.std.specs.List.{find, range_with_len}
use Rattle.std.specs.Option.{option_or}
use Rattle.std.proofs.lemmas.Bool.{cases_Bool, cases_eq}
use Rattle.np_addr.specs.Prelude.{AddressRanges, IsAddressSet, set_has}
use Rattle.np_check.specs.Prelude.{Address, BreakingAddress, Family, Four, PortSpot, Range, Six, Wanted, breaks, broken_at, broken_in, family_addresses, first_broken_of, first_given, first_number, first_spot, with_spot}
use Rattle.np_addr.specs.declared.address.Family.TheVariants as family
use Rattle.np_base.specs.Ranges.{IsAscending, holds}
use Rattle.np_check.proofs.FirstLemmas.{first_of-append, first_of-filter, first_of-map, first_of-none, none_both}
use Rattle.np_table.proofs.PlaceLemmas.{range-append}
use Rattle.np_check.proofs.RangeLemmas.{first_number-is}
use Rattle.np_check.proofs.SpotLemmas.{breaks-same}
use Rattle.np_conns.specs.Prelude.{Conns, has_spot}
use Rattle.np_table.proofs.RangeWalks.{walk-right}
use Rattle.np_conns.proofs.ConnLemmas.{conns_of-has}
use Rattle.np_table.specs.Prelude.{AreRight, Stretch, address_row, four_of, rows_of_addresses, six_of, walk}
use Rattle.np_table.proofs.RangeOneList.{AreRight-ordered}

-- ---- numbers from 0 on

-- the first of so many numbers that gives something; it is never evaluated
pub upto : {Y : Type 0} → (ℕ → Option Y) → ℕ → Option Y
upto gives count = first_given gives (range_with_len 0 count)

range_same : {Y : Type 0} (gives gives' : ℕ → Option Y) (low count : ℕ) → ((n : ℕ) → low ≤ n → n < low + count → gives n ≡ gives' n) →
    first_given gives (range_with_len low count) ≡ first_given gives' (range_with_len low count)
range_same gives gives' low zero same = refl
range_same gives gives' low (suc count) same =
    ap (λ first. option_or first (first_given gives (range_with_len (low + 1) count))) (same low (omega arith) (omega arith))
    ∙ ap (λ rest. option_or (gives' low) rest) (range_same gives gives' (low + 1) count (λ n above below. same n (omega arith) (omega arith)))

range_below : {Y : Type 0} (gives : ℕ → Option Y) (low count : ℕ) → ((n : ℕ) → low ≤ n → n < low + count → gives n ≡ None) → first_given gives (range_with_len low count) ≡ None
range_below gives low zero none = refl
range_below gives low (suc count) none =
    ap (λ first. option_or first (first_given gives (range_with_len (low + 1) count))) (none low (omega arith) (omega arith))
    ∙ range_below gives (low + 1) count (λ n above below. none n (omega arith) (omega arith))

range_each : {Y : Type 0} (gives : ℕ → Option Y) (low count n : ℕ) → first_given gives (range_with_len low count) ≡ None → low ≤ n → n < low + count → gives n ≡ None
range_each gives low zero n none above below = absurd (omega arith)
range_each gives low (suc count) n none above below =
    let both = none_both (gives low) (first_given gives (range_with_len (low + 1) count)) none in
    elim (cases_eq low n) [
      | inl here ↦ ap gives (sym here) ∙ both.0
      | inr other ↦ range_each gives (low + 1) count n both.1 (omega arith) (omega arith)
    ]

pub upto-below : {Y : Type 0} (gives : ℕ → Option Y) (count : ℕ) → ((n : ℕ) → n < count → gives n ≡ None) → upto gives count ≡ None
unfolding upto
upto-below gives count none = range_below gives 0 count (λ n above below. none n (omega arith))

pub upto-each : {Y : Type 0} (gives : ℕ → Option Y) (count n : ℕ) → upto gives count ≡ None → n < count → gives n ≡ None
unfolding upto
upto-each gives count n none below = range_each gives 0 count n none (omega arith) (omega arith)

-- the addresses of a family in a set
pub addresses_upto : {Y : Type 0} (set : AddressRanges) (address : ℕ → Address) (gives : Address → Option Y) (count : ℕ) →
    first_given gives (family_addresses set address count) ≡ upto (λ n. if set_has set (address n) then gives (address n) else None) count
unfolding upto family_addresses
addresses_upto set address gives count =
    first_of-filter gives (set_has set) (map address (range_with_len 0 count))
    ∙ first_of-map (λ a. if set_has set a then gives a else None) address (range_with_len 0 count)

-- ---- a range

abbrev broken_with : (ℕ → Address) → List (Range ℕ) → Option PortSpot → ℕ → Option BreakingAddress
broken_with address ranges spot n = if holds (λ a. a) ranges n then option_map (λ s. record { address = address n; spot = s }) spot else None

abbrev pub broken_by : Address → PortSpot → BreakingAddress
broken_by address spot = record { address = address; spot = spot }

none_with : (address : ℕ → Address) (n : ℕ) (here : Bool) → (if here then option_map (λ (s : PortSpot). broken_by (address n) s) None else None) ≡ None
none_with address n true = refl
none_with address n false = refl

with_none : (address : Option Address) → with_spot address None ≡ None
with_none None = refl
with_none (Some address) = refl

-- where the same is broken at each number of a range, the first number of the ranges in it is the first address
in_range : (address : ℕ → Address) (ranges : List (Range ℕ)) (spot : Option PortSpot) (low count : ℕ) →
    first_given (broken_with address ranges spot) (range_with_len low count) ≡ with_spot (option_map address (find (holds (λ a. a) ranges) (range_with_len low count))) spot
in_range address ranges None low count =
    first_of-none (broken_with address ranges None) (range_with_len low count) (λ n. none_with address n (holds (λ a. a) ranges n))
    ∙ sym (with_none (option_map address (find (holds (λ a. a) ranges) (range_with_len low count))))
in_range address ranges (Some spot) low zero = refl
in_range address ranges (Some spot) low (suc count) =
    elim (cases_Bool (holds (λ a. a) ranges low)) [
      | inl here ↦ rw here refl
      | inr other ↦ rw other (in_range address ranges (Some spot) (low + 1) count)
    ]

-- ---- the right list of ranges

abbrev broken_stretch : Wanted → Conns → (ℕ → Address) → List (Range ℕ) → Stretch → Option BreakingAddress
broken_stretch wanted conns address ranges stretch = with_spot (option_map address (first_number (λ a. a) ranges stretch.lo stretch.hi)) (first_spot (breaks wanted conns (has_spot stretch.conns)))

abbrev broken_number : Wanted → Conns → (ℕ → Address) → List (Range ℕ) → (ℕ → PortSpot → Bool) → ℕ → Option BreakingAddress
broken_number wanted conns address ranges passes n = broken_with address ranges (first_spot (breaks wanted conns (passes n))) n

by_stretches : (wanted : Wanted) (conns : Conns) (address : ℕ → Address) (ranges : List (Range ℕ)) (passes : ℕ → PortSpot → Bool) (least last from to count : ℕ) (before : Option Conns)
    (stretches : List Stretch) →
    IsAscending (λ a. a) least last ranges → AreRight passes from to before stretches → from + count ≡ to →
    first_given (broken_stretch wanted conns address ranges) stretches ≡ first_given (broken_number wanted conns address ranges passes) (range_with_len from count)
by_stretches wanted conns address ranges passes least last from to count before [] ascends are ends =
    let none : count ≡ 0 = omega arith in rw none refl
by_stretches wanted conns address ranges passes least last from to count before (stretch ∷ stretches) ascends are ends =
    let ordered = AreRight-ordered passes (stretch.hi + 1) to (Some stretch.conns) stretches are.1 in
    let start = are.0.start in
    let filled = are.0.filled in
    let own = stretch.hi + 1 - stretch.lo in
    let others = to - (stretch.hi + 1) in
    let sum : count ≡ own + others = omega arith in
    let next : from + own ≡ stretch.hi + 1 = omega arith in
    let spot = first_spot (breaks wanted conns (has_spot stretch.conns)) in
    let same : (n : ℕ) → from ≤ n → n < from + own → broken_number wanted conns address ranges passes n ≡ broken_with address ranges spot n = λ n above below.
    ap (λ (s : Option PortSpot). broken_with address ranges s n)
    (breaks-same wanted conns (passes n) (has_spot stretch.conns)
    (λ one is. sym (conns_of-has (passes n) one is) ∙ ap (λ (c : Conns). has_spot c one) (are.0.conns n (omega arith) (omega arith)))) in
    let first : broken_stretch wanted conns address ranges stretch ≡ first_given (broken_number wanted conns address ranges passes) (range_with_len from own) =
    ap (λ (found : Option ℕ). with_spot (option_map address found) spot) (sym (first_number-is ranges least last stretch.lo stretch.hi own (omega arith) ascends))
    ∙ ap (λ (low : ℕ). with_spot (option_map address (find (holds (λ a. a) ranges) (range_with_len low own))) spot) start
    ∙ sym (in_range address ranges spot from own)
    ∙ sym (range_same (broken_number wanted conns address ranges passes) (broken_with address ranges spot) from own same) in
    let rest : first_given (broken_stretch wanted conns address ranges) stretches ≡ first_given (broken_number wanted conns address ranges passes) (range_with_len (from + own) others) =
    by_stretches wanted conns address ranges passes least last (stretch.hi + 1) to others (Some stretch.conns) stretches ascends are.1 (omega arith)
    ∙ ap (λ (low : ℕ). first_given (broken_number wanted conns address ranges passes) (range_with_len low others)) (sym next) in
    ap (λ one. option_or one (first_given (broken_stretch wanted conns address ranges) stretches)) first
    ∙ ap (λ more. option_or (first_given (broken_number wanted conns address ranges passes) (range_with_len from own)) more) rest
    ∙ sym (first_of-append (broken_number wanted conns address ranges passes) (range_with_len from own) (range_with_len (from + own) others))
    ∙ ap (first_given (broken_number wanted conns address ranges passes)) (sym (range-append from own others))
    ∙ ap (λ (k : ℕ). first_given (broken_number wanted conns address ranges passes) (range_with_len from k)) (sym sum)

stretches_upto : (wanted : Wanted) (conns : Conns) (address : ℕ → Address) (ranges : List (Range ℕ)) (passes : ℕ → PortSpot → Bool) (least last to count : ℕ) (stretches : List Stretch) →
    IsAscending (λ a. a) least last ranges → AreRight passes 0 to None stretches → 0 + count ≡ to →
    first_given (broken_stretch wanted conns address ranges) stretches ≡ upto (broken_number wanted conns address ranges passes) count
unfolding upto
stretches_upto wanted conns address ranges passes least last to count stretches ascends are ends =
    by_stretches wanted conns address ranges passes least last 0 to count None stretches ascends are ends

-- ---- both families

four_first : (wanted : Wanted) (conns : Conns) (block : AddressRanges) (passes : Family → ℕ → PortSpot → Bool) → IsAddressSet block →
    first_given (broken_in wanted conns block) (map (address_row four_of) (walk (passes family.Four) 0 (2 ^ 32 - 1))) ≡ first_given (broken_at wanted conns passes) (family_addresses block Four (2 ^ 32))
four_first wanted conns block passes well =
    first_of-map (broken_in wanted conns block) (address_row four_of) (walk (passes family.Four) 0 (2 ^ 32 - 1))
    ∙ stretches_upto wanted conns Four block.first (passes family.Four) 0 (2 ^ 32 - 1) (2 ^ 32 - 1 + 1) (2 ^ 32) (walk (passes family.Four) 0 (2 ^ 32 - 1)) well.0
    (walk-right (passes family.Four) 0 (2 ^ 32 - 1) (omega arith)) refl
    ∙ sym (addresses_upto block Four (broken_at wanted conns passes) (2 ^ 32))

six_first : (wanted : Wanted) (conns : Conns) (block : AddressRanges) (passes : Family → ℕ → PortSpot → Bool) → IsAddressSet block →
    first_given (broken_in wanted conns block) (map (address_row six_of) (walk (passes family.Six) 0 (2 ^ 128 - 1))) ≡ first_given (broken_at wanted conns passes) (family_addresses block Six (2 ^ 128))
six_first wanted conns block passes well =
    first_of-map (broken_in wanted conns block) (address_row six_of) (walk (passes family.Six) 0 (2 ^ 128 - 1))
    ∙ stretches_upto wanted conns Six block.second (passes family.Six) 0 (2 ^ 128 - 1) (2 ^ 128 - 1 + 1) (2 ^ 128) (walk (passes family.Six) 0 (2 ^ 128 - 1)) well.1
    (walk-right (passes family.Six) 0 (2 ^ 128 - 1) (omega arith)) refl
    ∙ sym (addresses_upto block Six (broken_at wanted conns passes) (2 ^ 128))

-- range by range the same is found as address by address
pub first_broken-rows : (wanted : Wanted) (conns : Conns) (block : AddressRanges) (passes : Family → ℕ → PortSpot → Bool) → IsAddressSet block →
    first_given (broken_in wanted conns block) (rows_of_addresses passes) ≡ first_broken_of wanted conns block passes
unfolding first_broken_of
first_broken-rows wanted conns block passes well =
    first_of-append (broken_in wanted conns block) (map (address_row four_of) (walk (passes family.Four) 0 (2 ^ 32 - 1))) (map (address_row six_of) (walk (passes family.Six) 0 (2 ^ 128 - 1)))
    ∙ ap (λ first. option_or first (first_given (broken_in wanted conns block) (map (address_row six_of) (walk (passes family.Six) 0 (2 ^ 128 - 1))))) (four_first wanted conns block passes well)
    ∙ ap (λ rest. option_or (first_given (broken_at wanted conns passes) (family_addresses block Four (2 ^ 32))) rest) (six_first wanted conns block passes well)
    ∙ sym (first_of-append (broken_at wanted conns passes) (family_addresses block Four (2 ^ 32)) (family_addresses block Six (2 ^ 128)))
