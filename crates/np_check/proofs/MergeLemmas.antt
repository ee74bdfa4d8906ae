-- The first packet from addresses to several workloads, workload by workload. For AddressLemmas and OrderLemmas.
use Rattle.std.proofs.Common.{◌≡◌, ℕ, zero, suc, ◌+◌, ◌^◌, ◌<◌, ◌≤◌, List, [], ◌∷◌, true, false, Option, Some, None, map, refl, sym, ap, ◌∙◌, inl, inr, arith}
use Rattle.std.specs.Prelude.{filter}
use Rattle.std.specs.List.{AllByRecursion, range_with_len}
use Rattle.std.specs.Option.{option_or}
use Rattle.std.proofs.lemmas.Bool.{cases_Bool, lt-ltb}
use Rattle.std.proofs.lemmas.Option.{none-some, same_Some}
use Rattle.np_addr.specs.Prelude.{AddressRanges, set_has}
use Rattle.np_check.specs.Prelude.{Address, At, Counterexample, Four, PlaceEnd, Six, address_before, addresses_of, comes_before, earlier, family_addresses, first_given}
use Rattle.np_check.proofs.FirstLemmas.{from_either}
use Rattle.np_check.proofs.SortedLemmas.{SortedBy, address_back, address_itself, sorted_append}

-- ---- addresses in their order

abbrev pub IsBefore : Address → Address → Type 0
IsBefore one other = address_before one other ≡ true

abbrev each_in : AddressRanges → (ℕ → Address) → ℕ → ℕ → List Address
each_in set address low count = filter (set_has set) (map address (range_with_len low count))

all_in : (P : Address → Type 0) (set : AddressRanges) (address : ℕ → Address) (low count : ℕ) → ((n : ℕ) → low ≤ n → P (address n)) → AllByRecursion P (each_in set address low count)
all_in P set address low zero holds = tt
all_in P set address low (suc count) holds =
    elim (cases_Bool (set_has set (address low))) [
      | inl has ↦ rw has (holds low (omega arith), all_in P set address (low + 1) count (λ n above. holds n (omega arith)))
      | inr lacks ↦ rw lacks (all_in P set address (low + 1) count (λ n above. holds n (omega arith)))
    ]

ascend_in : (set : AddressRanges) (address : ℕ → Address) (low count : ℕ) → ((m n : ℕ) → m < n → IsBefore (address m) (address n)) → SortedBy address_before (each_in set address low count)
ascend_in set address low zero ordered = tt
ascend_in set address low (suc count) ordered =
    elim (cases_Bool (set_has set (address low))) [
      | inl has ↦ rw has (all_in (IsBefore (address low)) set address (low + 1) count (λ n above. ordered low n (omega arith)), ascend_in set address (low + 1) count ordered)
      | inr lacks ↦ rw lacks (ascend_in set address (low + 1) count ordered)
    ]

ascend_family : (set : AddressRanges) (address : ℕ → Address) (count : ℕ) → ((m n : ℕ) → m < n → IsBefore (address m) (address n)) → SortedBy address_before (family_addresses set address count)
unfolding family_addresses
ascend_family set address count ordered = ascend_in set address 0 count ordered

all_family : (P : Address → Type 0) (set : AddressRanges) (address : ℕ → Address) (count : ℕ) → ((n : ℕ) → P (address n)) → AllByRecursion P (family_addresses set address count)
unfolding family_addresses
all_family P set address count holds = all_in P set address 0 count (λ n above. holds n)

pub addresses-ascend : (set : AddressRanges) → SortedBy address_before (addresses_of set)
addresses-ascend set =
    sorted_append address_before (family_addresses set Four (2 ^ 32)) (family_addresses set Six (2 ^ 128))
    (ascend_family set Four (2 ^ 32) (λ m n below. lt-ltb m n below))
    (ascend_family set Six (2 ^ 128) (λ m n below. lt-ltb m n below))
    (all_family (λ x. AllByRecursion (IsBefore x) (family_addresses set Six (2 ^ 128))) set Four (2 ^ 32) (λ n. all_family (IsBefore (Four n)) set Six (2 ^ 128) (λ m. refl)))

-- ---- two firsts

-- what is found of an address is from it
abbrev pub IsFrom : (Address → Option Counterexample) → Type 0
IsFrom gives = (address : Address) (counterexample : Counterexample) → gives address ≡ Some counterexample → counterexample.source ≡ At address

from_behind : (gives : Address → Option Counterexample) (x : Address) (xs : List Address) (counterexample : Counterexample) → IsFrom gives → AllByRecursion (IsBefore x) xs →
    first_given gives xs ≡ Some counterexample → (y : Address) × IsBefore x y × (counterexample.source ≡ At y)
from_behind gives x [] counterexample from all found = absurd (none-some counterexample found)
from_behind gives x (y ∷ ys) counterexample from all found =
    elim (from_either (gives y) (first_given gives ys) counterexample found) [
      | inl here ↦ (y, all.0, from y counterexample here)
      | inr later ↦ from_behind gives x ys counterexample from all.1 later
    ]

-- the one that is kept is from x, and the other one from no earlier address
keep_first : (x : Address) (counterexample : Counterexample) (other : Option Counterexample) → counterexample.source ≡ At x →
    ((found : Counterexample) → other ≡ Some found → comes_before found.source (At x) ≡ false) → earlier (Some counterexample) other ≡ Some counterexample
keep_first x counterexample None source later = refl
keep_first x counterexample (Some found) source later =
    let no : comes_before found.source counterexample.source ≡ false = ap (λ (end : PlaceEnd). comes_before found.source end) source ∙ later found refl in
    rw no refl

take_second : (x : Address) (counterexample : Counterexample) (first : Option Counterexample) → counterexample.source ≡ At x →
    ((kept : Counterexample) → first ≡ Some kept → comes_before (At x) kept.source ≡ true) → earlier first (Some counterexample) ≡ Some counterexample
take_second x counterexample None source later = refl
take_second x counterexample (Some kept) source later =
    let does : comes_before counterexample.source kept.source ≡ true = ap (λ (end : PlaceEnd). comes_before end kept.source) source ∙ later kept refl in
    rw does refl

merge_here : (gives gives' : Address → Option Counterexample) (x : Address) (xs : List Address) (one other : Option Counterexample) → IsFrom gives → IsFrom gives' → AllByRecursion (IsBefore x) xs →
    gives x ≡ one → gives' x ≡ other → first_given (λ a. option_or (gives a) (gives' a)) xs ≡ earlier (first_given gives xs) (first_given gives' xs) →
    option_or (option_or one other) (first_given (λ a. option_or (gives a) (gives' a)) xs) ≡ earlier (option_or one (first_given gives xs)) (option_or other (first_given gives' xs))
merge_here gives gives' x xs (Some counterexample) (Some found) from from' all is is' rest =
    sym (keep_first x counterexample (Some found) (from x counterexample is) (λ other same. ap (λ (c : Counterexample). comes_before c.source (At x)) (sym (same_Some found other same)) ∙ ap
    (λ (end : PlaceEnd). comes_before end (At x)) (from' x found is') ∙ address_itself x))
merge_here gives gives' x xs (Some counterexample) None from from' all is is' rest =
    sym (keep_first x counterexample (first_given gives' xs) (from x counterexample is) (λ found later.
    let (y, before, source) = from_behind gives' x xs found from' all later in
    ap (λ (end : PlaceEnd). comes_before end (At x)) source ∙ address_back x y before))
merge_here gives gives' x xs None (Some counterexample) from from' all is is' rest =
    sym (take_second x counterexample (first_given gives xs) (from' x counterexample is') (λ kept later.
    let (y, before, source) = from_behind gives x xs kept from all later in
    ap (λ (end : PlaceEnd). comes_before (At x) end) source ∙ before))
merge_here gives gives' x xs None None from from' all is is' rest = rest

-- the first by one or the other is the earlier of the first by the one and the first by the other
pub merge : (gives gives' : Address → Option Counterexample) (xs : List Address) → IsFrom gives → IsFrom gives' → SortedBy address_before xs →
    first_given (λ a. option_or (gives a) (gives' a)) xs ≡ earlier (first_given gives xs) (first_given gives' xs)
merge gives gives' [] from from' ascends = refl
merge gives gives' (x ∷ xs) from from' ascends =
    merge_here gives gives' x xs (gives x) (gives' x) from from' ascends.0 refl refl (merge gives gives' xs from from' ascends.1)
