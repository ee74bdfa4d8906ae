-- The first of a list whose items stand in an order. For LeastLemmas.
use Rattle.std.proofs.Common.{◌≡◌, ℕ, ◌^◌, ◌<◌, nat_lt, List, [], ◌∷◌, Bool, true, false, Option, Some, None, Contains, map, refl, sym, ap, subst, ◌∙◌, inl, inr, arith, if◌then◌else◌}
use Rattle.std.specs.Prelude.{filter}
use Rattle.std.specs.List.{AllByRecursion, range_with_len}
use Rattle.std.specs.Option.{option_or}
use Rattle.std.proofs.lemmas.Bool.{true≢false}
use Rattle.std.proofs.lemmas.List.Elements.{All-contains, All-from_recursion, Contains-append_cases, Contains-append_left, Contains-append_right, filter_passes}
use Rattle.std.proofs.lemmas.Option.{none-some}
use Rattle.np_addr.specs.Prelude.{AddressRanges, IsAddress, set_has}
use Rattle.np_check.specs.Prelude.{Address, At, Ends, EstateLists, Family, Four, IsEndOf, PlaceEnd, Proto, Sctp, Six, Tcp, Udp, Work, address_before, addresses_of, comes_before, families_between, family_addresses, family_before, first_given, is_ascending, places_of, proto_before}
use Rattle.np_addr.specs.declared.address.Family.TheVariants as family
use Rattle.np_addr.proofs.SameLists.{Contains-first}
use Rattle.np_check.proofs.MemberLemmas.{first_or_later, from_filter, from_map, from_range, further_on, in_filter, in_map, in_range}
use Rattle.np_check.proofs.MergeLemmas.{addresses-ascend}
use Rattle.np_check.proofs.SortedLemmas.{IsStrict, SortedBy, each_map, sorted_append, sorted_map, works_sorted}
use Rattle.np_model.specs.Prelude.{families_of, has_family, or_four}
use Rattle.np_model.specs.declared.pod.Pod.{Pod}
use Rattle.np_fold.specs.Prelude.{folding_of}
use Rattle.np_kinds.specs.Prelude.{is_alone}
use Rattle.np_rules.proofs.EachItem.{All-each}

-- ---- the first

-- what the first is found of, and what comes before that gives nothing
pub record IsFoundOf {X Y : Type 0} (before : X → X → Bool) (gives : X → Option Y) (xs : List X) (y : Y) : Type 0 where
  pub item : X
  pub one : Contains xs item
  pub found : gives item ≡ Some y
  pub none : (x : X) → Contains xs x → before x item ≡ true → gives x ≡ None

at_head : {X Y : Type 0} (before : X → X → Bool) (gives : X → Option Y) (x : X) (xs : List X) (y : Y) (own : Option Y) → IsStrict before → SortedBy before (x ∷ xs) → gives x ≡ own →
    option_or own (first_given gives xs) ≡ Some y → (first_given gives xs ≡ Some y → IsFoundOf before gives xs y) → IsFoundOf before gives (x ∷ xs) y
at_head before gives x xs y (Some z) strict sorted is found rest = record {
  item = x;
  one = Contains-first x xs;
  found = is ∙ found;
  none = λ other one earlier. elim (first_or_later x xs other one) [
    | inl same ↦ absurd (true≢false (sym earlier ∙ ap (λ o. before o x) same ∙ strict.itself x))
    | inr later ↦
        let behind = All-contains (λ o. before x o ≡ true) xs other (All-from_recursion (λ o. before x o ≡ true) xs sorted.0) later in
        absurd (true≢false (sym earlier ∙ strict.back x other behind))
  ];
}
at_head before gives x xs y None strict sorted is found rest =
    let of = rest found in
    record {
      item = of.item;
      one = further_on x xs of.item of.one;
      found = of.found;
      none = λ other one earlier. elim (first_or_later x xs other one) [
        | inl same ↦ ap gives same ∙ is
        | inr later ↦ of.none other later earlier
      ];
    }

pub found_of : {X Y : Type 0} (before : X → X → Bool) (gives : X → Option Y) (xs : List X) (y : Y) → IsStrict before → SortedBy before xs → first_given gives xs ≡ Some y → IsFoundOf before gives xs y
found_of before gives [] y strict sorted found = absurd (none-some y found)
found_of before gives (x ∷ xs) y strict sorted found =
    at_head before gives x xs y (gives x) strict sorted refl found (λ later. found_of before gives xs y strict sorted.1 later)

-- ---- protocols and families

pub protos_sorted : SortedBy proto_before (Tcp ∷ Udp ∷ Sctp ∷ [])
protos_sorted = ((refl, (refl, tt)), ((refl, tt), (tt, tt)))

pub proto_in : (proto : Proto) → Contains (Tcp ∷ Udp ∷ Sctp ∷ []) proto
proto_in Tcp = (0, omega arith, refl)
proto_in Udp = (1, omega arith, refl)
proto_in Sctp = (2, omega arith, refl)

two_sorted : (four six : Bool) → SortedBy family_before (or_four (if four then family.Four ∷ (if six then family.Six ∷ [] else []) else (if six then family.Six ∷ [] else [])))
two_sorted true true = ((refl, tt), (tt, tt))
two_sorted true false = (tt, tt)
two_sorted false true = (tt, tt)
two_sorted false false = (tt, tt)

families_sorted : (pods : List Pod) → SortedBy family_before (families_of pods)
families_sorted pods = two_sorted (has_family pods family.Four) (has_family pods family.Six)

alone_sorted : (alone : Bool) (families : List Family) → SortedBy family_before families → SortedBy family_before (if alone then [] else families)
alone_sorted true families sorted = tt
alone_sorted false families sorted = sorted

pub between_sorted : (lists : EstateLists) (source destination : PlaceEnd) → SortedBy family_before (families_between lists source destination)
between_sorted lists (Work a) (Work b) = alone_sorted (is_alone (folding_of lists) a b) (families_of lists.pods) (families_sorted lists.pods)
between_sorted lists (Work a) (At address) = (tt, tt)
between_sorted lists (At address) (Work b) = (tt, tt)
between_sorted lists (At address) (At other) = tt

-- ---- the ends of a side

in_family : (set : AddressRanges) (address : ℕ → Address) (count n : ℕ) → n < count → set_has set (address n) ≡ true → Contains (family_addresses set address count) (address n)
unfolding family_addresses
in_family set address count n below has =
    in_filter (set_has set) (map address (range_with_len 0 count)) (address n) (in_map address (range_with_len 0 count) n (in_range 0 count n (omega arith) (omega arith))) has

family_in : (set : AddressRanges) (address : ℕ → Address) (count : ℕ) (a : Address) → Contains (family_addresses set address count) a → (n : ℕ) × (n < count) × (a ≡ address n) × (set_has set a ≡ true)
unfolding family_addresses
family_in set address count a is =
    let all = map address (range_with_len 0 count) in
    let (n, of, one) = from_map address (range_with_len 0 count) a (from_filter (set_has set) all a is) in
    (n, from_range count n one, of, All-contains (λ (b : Address). set_has set b ≡ true) (filter (set_has set) all) a (filter_passes (set_has set) all) is)

in_addresses : (set : AddressRanges) (a : Address) → IsAddress a → set_has set a ≡ true → Contains (addresses_of set) a
in_addresses set (Four n) is has = Contains-append_left (family_addresses set Four (2 ^ 32)) (family_addresses set Six (2 ^ 128)) (Four n) (in_family set Four (2 ^ 32) n is has)
in_addresses set (Six n) is has = Contains-append_right (family_addresses set Four (2 ^ 32)) (family_addresses set Six (2 ^ 128)) (Six n) (in_family set Six (2 ^ 128) n is has)

addresses_are : (set : AddressRanges) (a : Address) → Contains (addresses_of set) a → IsAddress a × (set_has set a ≡ true)
addresses_are set a is =
    elim (Contains-append_cases (family_addresses set Four (2 ^ 32)) (family_addresses set Six (2 ^ 128)) a is) [
      | inl here ↦ let (n, below, of, has) = family_in set Four (2 ^ 32) a here in (subst IsAddress (sym of) below, has)
      | inr there ↦ let (n, below, of, has) = family_in set Six (2 ^ 128) a there in (subst IsAddress (sym of) below, has)
    ]

-- an end of a side is one of its list
pub in_places : (ends : Ends) (end : PlaceEnd) → IsEndOf ends end → Contains (places_of ends) end
in_places ends (Work work) is = Contains-append_left (map Work ends.works) (map At (addresses_of ends.block)) (Work work) (in_map Work ends.works work is)
in_places ends (At address) is = Contains-append_right (map Work ends.works) (map At (addresses_of ends.block)) (At address)
    (in_map At (addresses_of ends.block) address (in_addresses ends.block address is.0 is.1))

pub places_are : (ends : Ends) (end : PlaceEnd) → Contains (places_of ends) end → IsEndOf ends end
places_are ends end is =
    elim (Contains-append_cases (map Work ends.works) (map At (addresses_of ends.block)) end is) [
      | inl here ↦ let (work, of, one) = from_map Work ends.works end here in subst (IsEndOf ends) (sym of) one
      | inr there ↦ let (address, of, one) = from_map At (addresses_of ends.block) end there in subst (IsEndOf ends) (sym of) (addresses_are ends.block address one)
    ]

-- they stand in their order
pub places_sorted : (ends : Ends) → is_ascending ends.works ≡ true → SortedBy comes_before (places_of ends)
places_sorted ends ascends =
    let addresses = addresses_of ends.block in
    sorted_append comes_before (map Work ends.works) (map At addresses)
    (sorted_map nat_lt comes_before Work ends.works (λ m n below. below) (works_sorted ends.works 0 ascends))
    (sorted_map address_before comes_before At addresses (λ a b below. below) (addresses-ascend ends.block))
    (each_map (λ x. AllByRecursion (λ y. comes_before x y ≡ true) (map At addresses)) Work ends.works
    (All-each (λ (work : ℕ). AllByRecursion (λ y. comes_before (Work work) y ≡ true) (map At addresses))
    (λ work. each_map (λ y. comes_before (Work work) y ≡ true) At addresses (All-each (λ (a : Address). comes_before (Work work) (At a) ≡ true) (λ a. refl) addresses)) ends.works))
