-- The first packet between a workload and addresses. For `first_from_addresses`, `first_from` and 2 more.
use Rattle.std.proofs.Common.{◌≡◌, ℕ, ◌+◌, ◌<◌, List, [], ◌∷◌, Option, Some, None, get_or, length, option_map, take, refl, sym, ap, ◌∙◌, inl, inr}
use Rattle.std.specs.Option.{option_or}
use Rattle.std.proofs.lemmas.List.{take_more}
use Rattle.np_addr.specs.Prelude.{AddressRanges, family_of}
use Rattle.np_check.specs.Prelude.{Address, At, BreakingAddress, Counterexample, Egress, EstateLists, Family, Ingress, PlaceEnd, PortSpot, Wanted, Work, addresses_of, breaks, broken_at, counterexample_at, counterexample_between, counterexample_in, earlier, families_between, first_broken_of, first_given, first_spot, number_of_address}
use Rattle.np_check.proofs.BrokenLemmas.{broken_by}
use Rattle.np_check.proofs.FirstLemmas.{first_of-append, first_of-none, first_of-one, first_of-option_map, first_of-same, from_either}
use Rattle.np_check.proofs.MergeLemmas.{addresses-ascend, merge}
use Rattle.np_conns.specs.Prelude.{Conns}
use Rattle.np_fold.specs.Prelude.{folding_of}
use Rattle.np_model.specs.declared.direction.Direction.{Direction}
use Rattle.np_table.specs.Prelude.{address_rows, estate_table, rows_of_addresses, table_of}
use Rattle.np_kinds.specs.Prelude.{address_allows}

-- the rows of a workload are those of what passes between it and each address
pub table_rows : (lists : EstateLists) (work : ℕ) (direction : Direction) →
    address_rows (estate_table lists) work direction ≡ rows_of_addresses (address_allows lists (folding_of lists) work direction)
unfolding address_rows table_of
table_rows lists work direction = refl

-- ---- packets

map_map : {X Y Z : Type 0} (to : Y → Z) (from : X → Y) (found : Option X) → option_map (λ x. to (from x)) found ≡ option_map to (option_map from found)
map_map to from None = refl
map_map to from (Some x) = refl

abbrev pub counterexample_to : ℕ → BreakingAddress → Counterexample
counterexample_to work broken = counterexample_at (At broken.address) (Work work) (family_of broken.address) broken.spot

abbrev pub counterexample_by : ℕ → BreakingAddress → Counterexample
counterexample_by work broken = counterexample_at (Work work) (At broken.address) (family_of broken.address) broken.spot

between_to : (lists : EstateLists) (wanted : Wanted) (conns : Conns) (work : ℕ) (address : Address) →
    counterexample_between lists wanted conns (At address) (Work work) ≡ option_map (counterexample_to work) (broken_at wanted conns (address_allows lists (folding_of lists) work Ingress) address)
unfolding counterexample_between
between_to lists wanted conns work address =
    first_of-one (counterexample_in lists wanted conns (At address) (Work work)) (family_of address)
    ∙ map_map (counterexample_to work) (broken_by address) (first_spot (breaks wanted conns (address_allows lists (folding_of lists) work Ingress (family_of address) (number_of_address address))))

between_by : (lists : EstateLists) (wanted : Wanted) (conns : Conns) (work : ℕ) (address : Address) →
    counterexample_between lists wanted conns (Work work) (At address) ≡ option_map (counterexample_by work) (broken_at wanted conns (address_allows lists (folding_of lists) work Egress) address)
unfolding counterexample_between
between_by lists wanted conns work address =
    first_of-one (counterexample_in lists wanted conns (Work work) (At address)) (family_of address)
    ∙ map_map (counterexample_by work) (broken_by address) (first_spot (breaks wanted conns (address_allows lists (folding_of lists) work Egress (family_of address) (number_of_address address))))

-- from addresses to a workload
pub all_to : (lists : EstateLists) (wanted : Wanted) (conns : Conns) (work : ℕ) (block : AddressRanges) (found : Option BreakingAddress) →
    found ≡ first_broken_of wanted conns block (address_allows lists (folding_of lists) work Ingress) →
    option_map (counterexample_to work) found ≡ first_given (λ address. counterexample_between lists wanted conns (At address) (Work work)) (addresses_of block)
unfolding first_broken_of
all_to lists wanted conns work block found is =
    ap (option_map (counterexample_to work)) is
    ∙ sym (first_of-option_map (broken_at wanted conns (address_allows lists (folding_of lists) work Ingress)) (counterexample_to work) (addresses_of block))
    ∙ sym (first_of-same (λ address. counterexample_between lists wanted conns (At address) (Work work))
    (λ address. option_map (counterexample_to work) (broken_at wanted conns (address_allows lists (folding_of lists) work Ingress) address)) (addresses_of block) (between_to lists wanted conns work))

-- and from a workload to addresses
pub all_by : (lists : EstateLists) (wanted : Wanted) (conns : Conns) (work : ℕ) (block : AddressRanges) (found : Option BreakingAddress) →
    found ≡ first_broken_of wanted conns block (address_allows lists (folding_of lists) work Egress) →
    option_map (counterexample_by work) found ≡ first_given (λ address. counterexample_between lists wanted conns (Work work) (At address)) (addresses_of block)
unfolding first_broken_of
all_by lists wanted conns work block found is =
    ap (option_map (counterexample_by work)) is
    ∙ sym (first_of-option_map (broken_at wanted conns (address_allows lists (folding_of lists) work Egress)) (counterexample_by work) (addresses_of block))
    ∙ sym (first_of-same (λ address. counterexample_between lists wanted conns (Work work) (At address))
    (λ address. option_map (counterexample_by work) (broken_at wanted conns (address_allows lists (folding_of lists) work Egress) address)) (addresses_of block) (between_by lists wanted conns work))

-- ---- what is found is from its source

none_some : (counterexample : Counterexample) → None ≡ Some counterexample → ⊥
none_some counterexample same = cc

same_counterexample : (one other : Counterexample) → Some one ≡ Some other → one ≡ other
same_counterexample one other same = cc

source_at : (source destination : PlaceEnd) (family : Family) (found : Option PortSpot) (counterexample : Counterexample) → option_map (counterexample_at source destination family) found ≡ Some counterexample →
    counterexample.source ≡ source
source_at source destination family None counterexample is = absurd (none_some counterexample is)
source_at source destination family (Some spot) counterexample is = sym (ap (λ (c : Counterexample). c.source) (same_counterexample (counterexample_at source destination family spot) counterexample is))

source_in : (lists : EstateLists) (wanted : Wanted) (conns : Conns) (source destination : PlaceEnd) (families : List Family) (counterexample : Counterexample) →
    first_given (counterexample_in lists wanted conns source destination) families ≡ Some counterexample → counterexample.source ≡ source
source_in lists wanted conns source destination [] counterexample is = absurd (none_some counterexample is)
source_in lists wanted conns source destination (family ∷ families) counterexample is =
    elim (from_either (counterexample_in lists wanted conns source destination family) (first_given (counterexample_in lists wanted conns source destination) families) counterexample is) [
      | inl here ↦ source_at source destination family _ counterexample here
      | inr later ↦ source_in lists wanted conns source destination families counterexample later
    ]

source_of : (lists : EstateLists) (wanted : Wanted) (conns : Conns) (source destination : PlaceEnd) (counterexample : Counterexample) → counterexample_between lists wanted conns source destination ≡ Some counterexample →
    counterexample.source ≡ source
unfolding counterexample_between
source_of lists wanted conns source destination counterexample is = source_in lists wanted conns source destination (families_between lists source destination) counterexample is

source_of_all : (lists : EstateLists) (wanted : Wanted) (conns : Conns) (source : PlaceEnd) (works : List ℕ) (counterexample : Counterexample) →
    first_given (λ work. counterexample_between lists wanted conns source (Work work)) works ≡ Some counterexample → counterexample.source ≡ source
source_of_all lists wanted conns source [] counterexample is = absurd (none_some counterexample is)
source_of_all lists wanted conns source (work ∷ works) counterexample is =
    elim (from_either (counterexample_between lists wanted conns source (Work work)) (first_given (λ work. counterexample_between lists wanted conns source (Work work)) works) counterexample is) [
      | inl here ↦ source_of lists wanted conns source (Work work) counterexample here
      | inr later ↦ source_of_all lists wanted conns source works counterexample later
    ]

-- ---- one workload more

pub no_works : (lists : EstateLists) (wanted : Wanted) (conns : Conns) (block : AddressRanges) →
    None ≡ first_given (λ address. first_given (λ work. counterexample_between lists wanted conns (At address) (Work work)) []) (addresses_of block)
no_works lists wanted conns block = sym (first_of-none (λ (address : Address). first_given (λ work. counterexample_between lists wanted conns (At address) (Work work)) []) (addresses_of block)
    (λ address. refl))

to_more : (lists : EstateLists) (wanted : Wanted) (conns : Conns) (works : List ℕ) (i : ℕ) (address : Address) → i < length works →
    option_or (first_given (λ work. counterexample_between lists wanted conns (At address) (Work work)) (take i works)) (counterexample_between lists wanted conns (At address) (Work (get_or works i 0))) ≡ first_given
    (λ work. counterexample_between lists wanted conns (At address) (Work work)) (take (i + 1) works)
to_more lists wanted conns works i address within =
    let gives = λ (work : ℕ). counterexample_between lists wanted conns (At address) (Work work) in
    ap (λ last. option_or (first_given gives (take i works)) last) (sym (first_of-one gives (get_or works i 0)))
    ∙ sym (first_of-append gives (take i works) (get_or works i 0 ∷ []))
    ∙ ap (first_given gives) (sym (take_more works i 0 within))

pub one_work_more : (lists : EstateLists) (wanted : Wanted) (conns : Conns) (block : AddressRanges) (works : List ℕ) (i : ℕ) (first found : Option Counterexample) → i < length works →
    first ≡ first_given (λ address. first_given (λ work. counterexample_between lists wanted conns (At address) (Work work)) (take i works)) (addresses_of block) →
    found ≡ first_given (λ address. counterexample_between lists wanted conns (At address) (Work (get_or works i 0))) (addresses_of block) →
    earlier first found ≡ first_given (λ address. first_given (λ work. counterexample_between lists wanted conns (At address) (Work work)) (take (i + 1) works)) (addresses_of block)
one_work_more lists wanted conns block works i first found within first_is found_is =
    let before = λ (address : Address). first_given (λ work. counterexample_between lists wanted conns (At address) (Work work)) (take i works) in
    let own = λ (address : Address). counterexample_between lists wanted conns (At address) (Work (get_or works i 0)) in
    let after = λ (address : Address). first_given (λ work. counterexample_between lists wanted conns (At address) (Work work)) (take (i + 1) works) in
    let both = λ (address : Address). option_or (before address) (own address) in
    ap (λ (one : Option Counterexample). earlier one found) first_is
    ∙ ap (λ (other : Option Counterexample). earlier (first_given before (addresses_of block)) other) found_is
    ∙ sym (merge before own (addresses_of block) (λ address counterexample is. source_of_all lists wanted conns (At address) (take i works) counterexample is)
    (λ address counterexample is. source_of lists wanted conns (At address) (Work (get_or works i 0)) counterexample is) (addresses-ascend block))
    ∙ first_of-same both after (addresses_of block) (λ address. to_more lists wanted conns works i address within)
