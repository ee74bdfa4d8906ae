-- The pods and the addresses that a form names are those of its ends.
-- For `ends_are_those_of_their_forms`, `unknown_names_are_of_no_workload` and crates above.
use Rattle.std.proofs.Common.{◌≡◌, ◌≢◌, ℕ, ◌^◌, ◌<◌, ◌↔◌, List, [], ◌∷◌, Bool, true, false, Option, Some, None, Ok, Err, length, map, get_or, slice_get, refl, sym, ap, subst, ◌∙◌, inl, inr, arith}
use Rattle.std.specs.Prelude.{Contains, IsSomeAnd, filter}
use Rattle.std.specs.Cmp.Lexicographic.{slice_cmp}
use Rattle.std.specs.List.Sorted.{IsStrictlySortedBy}
use Rattle.std.specs.Option.{option_map_or}
use Rattle.std.specs.Ordering.{is_eq, nat_cmp}
use Rattle.std.specs.Str.{bytes_eq}
use Rattle.std.proofs.lemmas.Bool.{cases_order, true≢false}
use Rattle.std.proofs.lemmas.List.{get_or-map, length-map}
use Rattle.std.proofs.lemmas.List.Elements.{All-contains, filter_passes}
use Rattle.std.proofs.lemmas.List.Folds.{list_any_at}
use Rattle.std.proofs.lemmas.List.Quantifiers.{position-Some}
use Rattle.std.proofs.lemmas.Map.Keys.{Less-from_sorted}
use Rattle.std.proofs.lemmas.Map.Text.{is_eq-slice_cmp}
use Rattle.std.proofs.lemmas.Option.{slice_get-get_or}
use Rattle.std.proofs.lemmas.Slice.Eq.{bytes_eq-Decides}
use Rattle.np_base.proofs.Lists.{slice_get-some}
use Rattle.np_addr.specs.Prelude.{AddressRanges, IsAddress, cidr_has, set_has}
use Rattle.np_statements.specs.Prelude.{Address, Addresses, Block, EndForm, Ends, EstateLists, NamesAddress, NamesPod, Namespace, Pod, Pods, Work, addresses_alone, all_works, block_addresses, ends_of, every_address, is_work_in_namespace, named_alone, no_address, works_alone}
use Rattle.np_addr.specs.declared.address.Address.TheVariants as address
use Rattle.np_check.proofs.MemberLemmas.{first_or_later, in_filter, in_range, nothing}
use Rattle.np_classes.proofs.Lists.{no_position}
use Rattle.np_classes.proofs.Relations.{firsts-le-count}
use Rattle.np_model.specs.Prelude.{IsLawful}
use Rattle.np_fold.proofs.WorkloadLemmas.{number-in_workloads, one_workload, workloads-by_name}
use Rattle.np_fold.specs.Prelude.{Workload, folding_of, name_of_workload, number_named, pods_alike, workload_count, workload_number, workloads_of}
use Rattle.np_statements.proofs.AddressSetLemmas.{has-addresses_in, has-every_address}
use Rattle.np_statements.proofs.EndLemmas.{named-within}
use Rattle.np_statements.proofs.StepLemmas.{same_ok}
use Rattle.np_kinds.proofs.MemberLemmas.{member-number, members-some, members-within, source-member}
use Rattle.np_kinds.specs.Prelude.{IsWorkload, number_of_workloads, source_pod}

-- ---- workloads

workloads-are : (lists : EstateLists) → (folding_of lists).workloads ≡ workloads_of lists
unfolding folding_of
workloads-are lists = refl

pub number-within : (lists : EstateLists) (place : ℕ) → place < length lists.pods → IsWorkload lists (workload_number lists place)
unfolding folding_of
number-within lists place within = number-in_workloads lists place within

in-all_works : (lists : EstateLists) (place : ℕ) → place < length lists.pods → Contains (all_works lists) (workload_number lists place)
in-all_works lists place within = in_range 0 (number_of_workloads lists) (workload_number lists place) (omega arith) (omega (arith, number-within lists place within))

-- a workload is of the namespace of each of its pods
namespace-told : (lists : EstateLists) (name : List ℕ) (place : ℕ) (pod : Pod) → place < length lists.pods → slice_get lists.pods place ≡ Some pod →
    is_work_in_namespace lists name (workload_number lists place) ≡ bytes_eq pod.namespace name
namespace-told lists name place pod within at =
    let number = workload_number lists place in
    let is = number-within lists place within in
    let member = source-member (folding_of lists) number (members-some lists (folding_of lists) number refl is) in
    let first_within = members-within lists (folding_of lists) number (source_pod (folding_of lists) number) refl is member in
    let (first, there) = slice_get-some lists.pods (source_pod (folding_of lists) number) first_within in
    let alike = (one_workload lists (source_pod (folding_of lists) number) place first pod there at).0 (member-number lists number (source_pod (folding_of lists) number) first_within member) in
    ap (λ (found : Option Pod). option_map_or (λ (one : Pod). bytes_eq one.namespace name) found false) there
    ∙ ap (λ (namespace : List ℕ). bytes_eq namespace name) alike.kind.namespace

-- ---- names

name-at : (lists : EstateLists) (work : ℕ) (d : Workload) → IsWorkload lists work → name_of_workload (folding_of lists) work ≡ (get_or (folding_of lists).workloads work d).name
name-at lists work d is = ap (λ (found : Option Workload). option_map_or (λ (one : Workload). one.name) found []) (slice_get-get_or (folding_of lists).workloads work d is)

few-workloads : (lists : EstateLists) → IsLawful lists → workload_count lists < 10 ^ 64
few-workloads lists lawful = omega (arith, firsts-le-count (pods_alike lists) (length lists.pods), lawful.few.pods)

names-ascend : (lists : EstateLists) → IsLawful lists → IsStrictlySortedBy (slice_cmp nat_cmp) (map (λ (one : Workload). one.name) (folding_of lists).workloads)
names-ascend lists lawful =
    subst (λ (workloads : List Workload). IsStrictlySortedBy (slice_cmp nat_cmp) (map (λ (one : Workload). one.name) workloads)) (sym (workloads-are lists))
    (workloads-by_name lists (few-workloads lists lawful))

no_workload : Workload
no_workload = record { name = []; members = [] }

-- an earlier workload has another name
names-differ : (lists : EstateLists) (a b : ℕ) → IsLawful lists → a < b → IsWorkload lists b → name_of_workload (folding_of lists) a ≢ name_of_workload (folding_of lists) b
names-differ lists a b lawful before within same =
    let ws = (folding_of lists).workloads in
    let in_a : IsWorkload lists a = omega arith in
    let names = map (λ (one : Workload). one.name) ws in
    let less = Less-from_sorted (slice_cmp nat_cmp) names a b [] (names-ascend lists lawful) before (omega (arith, length-map ws (λ (one : Workload). one.name))) in
    let name_a : get_or names a [] ≡ name_of_workload (folding_of lists) a = get_or-map (λ (one : Workload). one.name) ws a no_workload [] in_a ∙ sym (name-at lists a no_workload in_a) in
    let name_b : get_or names b [] ≡ name_of_workload (folding_of lists) b = get_or-map (λ (one : Workload). one.name) ws b no_workload [] within ∙ sym (name-at lists b no_workload within) in
    let equal = (bytes_eq-Decides (get_or names a []) (get_or names b [])).1 (name_a ∙ same ∙ sym name_b) in
    true≢false (sym equal ∙ sym (is_eq-slice_cmp (get_or names a []) (get_or names b [])) ∙ ap is_eq less)

-- the workload of a name has the name
named-has : (lists : EstateLists) (name : List ℕ) (work : ℕ) → number_named (folding_of lists) name ≡ Some work → name_of_workload (folding_of lists) work ≡ name
named-has lists name work is =
    let found = position-Some (λ (one : Workload). bytes_eq one.name name) (folding_of lists).workloads work no_workload is in
    name-at lists work no_workload found.0 ∙ (bytes_eq-Decides (get_or (folding_of lists).workloads work no_workload).name name).0 found.1

-- and no other has it
one-named : (lists : EstateLists) (name : List ℕ) (work other : ℕ) → IsLawful lists → number_named (folding_of lists) name ≡ Some work → IsWorkload lists other →
    name_of_workload (folding_of lists) other ≡ name → work ≡ other
one-named lists name work other lawful is within has =
    let own = named-has lists name work is in
    elim (cases_order work other) [
      | inl same ↦ same
      | inr apart ↦ elim apart [
        | inl before ↦ absurd (names-differ lists work other lawful before within (own ∙ sym has))
        | inr behind ↦ absurd (names-differ lists other work lawful behind (named-within lists name work is) (has ∙ sym own))
      ]
    ]

-- ---- pods

iff-by : (a b : Bool) (P : Type 0) → a ≡ b → ((b ≡ true) ↔ P) → (a ≡ true) ↔ P
iff-by a b P same (to, from) = (λ yes. to (sym same ∙ yes), λ p. same ∙ from p)

-- what the ends that are found have
of-ends : (ends other : Ends) (n : ℕ) (P : Type 0) → other ≡ ends → (Contains other.works n ↔ P) → Contains ends.works n ↔ P
of-ends ends other n P same has = subst (λ (one : Ends). Contains one.works n ↔ P) same has

no-pods : (ends : Ends) (block : AddressRanges) (n : ℕ) → addresses_alone block ≡ ends → Contains ends.works n ↔ ⊥
no-pods ends block n same = of-ends ends (addresses_alone block) n ⊥ same (nothing n, λ named. absurd named)

pub names-pods : (lists : EstateLists) (form : EndForm) (ends : Ends) (place : ℕ) → IsLawful lists → ends_of lists form ≡ Ok ends → place < length lists.pods →
    Contains ends.works (workload_number lists place) ↔ NamesPod lists form place
unfolding ends_of
names-pods lists Pods ends place lawful is within =
    of-ends ends (works_alone (all_works lists)) (workload_number lists place) (Unit {0}) (same_ok (works_alone (all_works lists)) ends is) (λ has. tt, λ named. in-all_works lists place within)
names-pods lists Addresses ends place lawful is within = no-pods ends every_address (workload_number lists place) (same_ok (addresses_alone every_address) ends is)
names-pods lists (Namespace name) ends place lawful is within =
    let (pod, at) = slice_get-some lists.pods place within in
    let number = workload_number lists place in
    let test = is_work_in_namespace lists name in
    let works = filter test (all_works lists) in
    let told : test number ≡ bytes_eq pod.namespace name = namespace-told lists name place pod within at in
    let named : (bytes_eq pod.namespace name ≡ true) ↔ IsSomeAnd (slice_get lists.pods place) (λ one. one.namespace ≡ name) =
    rw at ((bytes_eq-Decides pod.namespace name).0, (bytes_eq-Decides pod.namespace name).1) in
    of-ends ends (works_alone works) number (IsSomeAnd (slice_get lists.pods place) (λ one. one.namespace ≡ name)) (same_ok (works_alone works) ends is) (
      λ has. named.0 (sym told ∙ All-contains (λ (n : ℕ). test n ≡ true) works number (filter_passes test (all_works lists)) has),
      λ is_named. in_filter test (all_works lists) number (in-all_works lists place within) (told ∙ named.1 is_named),
    )
names-pods lists (Work name) ends place lawful is within = of (number_named (folding_of lists) name) refl is
  where
    of : (found : Option ℕ) → number_named (folding_of lists) name ≡ found → named_alone name found ≡ Ok ends → Contains ends.works (workload_number lists place) ↔ (name_of_workload (folding_of lists) (workload_number lists place) ≡ name)
    of None none is = cc
    of (Some work) found is =
        of-ends ends (works_alone (work ∷ [])) (workload_number lists place) (name_of_workload (folding_of lists) (workload_number lists place) ≡ name) (same_ok (works_alone (work ∷ [])) ends is) (
          λ has. elim (first_or_later work [] (workload_number lists place) has) [
            | inl same ↦ ap (name_of_workload (folding_of lists)) same ∙ named-has lists name work found
            | inr none ↦ absurd (nothing (workload_number lists place) none)
          ],
          λ has. (0, omega arith, one-named lists name work (workload_number lists place) lawful found (number-within lists place within) has),
        )
names-pods lists (Block cidr) ends place lawful is within = no-pods ends (block_addresses cidr) (workload_number lists place) (same_ok (addresses_alone (block_addresses cidr)) ends is)

-- ---- addresses

block-of : (ends other : Ends) (a : Address) → other ≡ ends → set_has ends.block a ≡ set_has other.block a
block-of ends other a same = ap (λ (one : Ends). set_has one.block a) (sym same)

none-has : (a : Address) → set_has no_address a ≡ false
none-has (address.Four n) = refl
none-has (address.Six n) = refl

none-named : (ends : Ends) (works : List ℕ) (a : Address) → works_alone works ≡ ends → (set_has ends.block a ≡ true) ↔ ⊥
none-named ends works a same =
    iff-by _ false ⊥ (block-of ends (works_alone works) a same ∙ none-has a) (λ yes. true≢false (sym yes), λ named. absurd named)

pub names-addresses : (lists : EstateLists) (form : EndForm) (ends : Ends) (a : Address) → ends_of lists form ≡ Ok ends → IsAddress a → (set_has ends.block a ≡ true) ↔ NamesAddress form a
unfolding ends_of
names-addresses lists Pods ends a is fits = none-named ends (all_works lists) a (same_ok (works_alone (all_works lists)) ends is)
names-addresses lists Addresses ends a is fits =
    iff-by _ true (Unit {0}) (block-of ends (addresses_alone every_address) a (same_ok (addresses_alone every_address) ends is) ∙ has-every_address a fits) (λ yes. tt, λ named. refl)
names-addresses lists (Namespace name) ends a is fits = none-named ends (filter (is_work_in_namespace lists name) (all_works lists)) a
    (same_ok (works_alone (filter (is_work_in_namespace lists name) (all_works lists))) ends is)
names-addresses lists (Work name) ends a is fits = of (number_named (folding_of lists) name) is
  where
    of : (found : Option ℕ) → named_alone name found ≡ Ok ends → (set_has ends.block a ≡ true) ↔ ⊥
    of None is = cc
    of (Some work) is = none-named ends (work ∷ []) a (same_ok (works_alone (work ∷ [])) ends is)
names-addresses lists (Block cidr) ends a is fits =
    iff-by _ (cidr_has cidr a) (cidr_has cidr a ≡ true) (block-of ends (addresses_alone (block_addresses cidr)) a (same_ok (addresses_alone (block_addresses cidr)) ends is) ∙ has-addresses_in cidr a)
    (λ yes. yes, λ named. named)

-- ---- names that are not known

pub unknown-named : (lists : EstateLists) (name : List ℕ) → ends_of lists (Work name) ≡ Err name → (work : ℕ) → IsWorkload lists work → name_of_workload (folding_of lists) work ≢ name
unfolding ends_of
unknown-named lists name is work within has = of (number_named (folding_of lists) name) refl is
  where
    of : (found : Option ℕ) → number_named (folding_of lists) name ≡ found → named_alone name found ≡ Err name → ⊥
    of None none is =
        let is_named = (bytes_eq-Decides (get_or (folding_of lists).workloads work no_workload).name name).1 (sym (name-at lists work no_workload within) ∙ has) in
        true≢false (sym (list_any_at (λ (one : Workload). bytes_eq one.name name) (folding_of lists).workloads work no_workload within is_named) ∙ no_position
        (λ (one : Workload). bytes_eq one.name name) (folding_of lists).workloads none)
    of (Some other) found is = cc

pub named-unknown : (lists : EstateLists) (name : List ℕ) → ((work : ℕ) → IsWorkload lists work → name_of_workload (folding_of lists) work ≢ name) → ends_of lists (Work name) ≡ Err name
unfolding ends_of
named-unknown lists name never = of (number_named (folding_of lists) name) refl
  where
    of : (found : Option ℕ) → number_named (folding_of lists) name ≡ found → named_alone name found ≡ Err name
    of None none = refl
    of (Some work) found = absurd (never work (named-within lists name work found) (named-has lists name work found))
