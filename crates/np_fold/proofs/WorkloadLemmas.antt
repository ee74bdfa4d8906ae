-- What follows of workloads. For `each_pod_has_one_workload`, `kinds_are_those_of_first_pods` and 4 more.
use Rattle.std.proofs.Common.{◌≡◌, ◌↔◌, ℕ, zero, suc, ◌+◌, ◌^◌, ◌<◌, ◌==◌, List, [], ◌∷◌, map, length, get_or, slice_get, Bool, true, false, cond, Option, Some, None, Less, refl, sym, ap, subst, ◌∙◌, arith}
use Rattle.std.specs.Prelude.{All, IsSomeAnd, filter}
use Rattle.std.specs.Cmp.Lexicographic.{slice_cmp}
use Rattle.std.specs.List.{AllByRecursion, find, position_or_len, range_with_len}
use Rattle.std.specs.List.Sorted.{IsStrictlySortedBy}
use Rattle.std.specs.Option.{option_map, option_map_or, option_and_then}
use Rattle.std.specs.Ordering.{nat_cmp}
use Rattle.std.proofs.lemmas.Bool.{false_from_ne_true, lt-ltb, not-true, true≢false}
use Rattle.std.proofs.lemmas.List.{length-map}
use Rattle.std.proofs.lemmas.List.Elements.{All-filter, All-get_or, filter_passes}
use Rattle.std.proofs.lemmas.List.Folds.{find_at}
use Rattle.std.proofs.lemmas.List.FromFn.{get_or-range_with_len, length-range_with_len}
use Rattle.std.proofs.lemmas.List.Kept.{IsStrictlySortedBy-filter}
use Rattle.std.proofs.lemmas.List.Sums.{position_or_len_is}
use Rattle.std.proofs.lemmas.Option.{none-some, same_Some, slice_get-get_or, slice_get-map, slice_get_within}
use Rattle.np_base.proofs.Lists.{slice_get-some}
use Rattle.np_classes.specs.Classes.{class_of, firsts, is_first, members, places}
use Rattle.np_classes.proofs.Lists.{All-places, any_place}
use Rattle.np_classes.proofs.Relations.{alike_in_class, same_class}
use Rattle.np_fold.specs.Prelude.{Alike, EstateLists, IsSameKind, Named, Pod, Workload, are_alike, are_same_kind, first_of, first_pod, first_pods, folding_of, has_pod, kinds_alike, members_of, named_first_pods, owner_names, pods_alike, pods_like, workload, workload_count, workload_number, workloads_of}
use Rattle.np_fold.proofs.AlikeLemmas.{alike_decide, alike-is, kinds_decide, kinds-are}
use Rattle.np_fold.proofs.NumberLemmas.{count-is, first-within, has_member-is, named-number, names-strict, number-is, number-rank, number-within, place-within}
use Rattle.np_names.specs.Names.{named}
use mathlib.Core.List.{map-map}

-- ---- lists of places

-- what a filter keeps first is what a search finds
first-filter : (p : ℕ → Bool) (xs : List ℕ) → slice_get (filter p xs) 0 ≡ find p xs
first-filter p [] = refl
first-filter p (x ∷ xs) = by (p x) (first-filter p xs)
  where
    by : (b : Bool) → slice_get (filter p xs) 0 ≡ find p xs → slice_get (cond b (x ∷ filter p xs) (filter p xs)) 0 ≡ cond b (Some x) (find p xs)
    by true rest = refl
    by false rest = rest

below_range : (low from n : ℕ) → low < from → AllByRecursion (λ place. nat_cmp low place ≡ Less) (range_with_len from n)
below_range low from zero below = tt
below_range low from (suc n) below = (rw (lt-ltb low from below) refl, below_range low (from + 1) n (omega arith))

range-ascends : (from n : ℕ) → IsStrictlySortedBy nat_cmp (range_with_len from n)
unfolding IsStrictlySortedBy
range-ascends from zero = tt
range-ascends from (suc n) = (below_range from (from + 1) n (omega arith), range-ascends (from + 1) n)

-- ---- members of a relation

module _ (alike : ℕ → ℕ → Bool) (count : ℕ) where
  members-within : (place : ℕ) → All (λ member. member < count) (members alike count place)
  unfolding members
  members-within place = All-filter (alike place) (λ member. member < count) (places count) (All-places (λ member. member < count) count (λ member below. below))

  members-ascend : (place : ℕ) → IsStrictlySortedBy nat_cmp (members alike count place)
  unfolding members
  members-ascend place = IsStrictlySortedBy-filter nat_cmp (alike place) (places count) (range-ascends 0 count)

module _ (lists : EstateLists) where
  abbrev count : ℕ
  count = length lists.pods

  abbrev class : ℕ → ℕ
  class place = class_of (pods_alike lists) (length lists.pods) place

  -- ---- workloads by their numbers

  workloads-named : length (workloads_of lists) ≡ length (named_first_pods lists)
  unfolding workloads_of
  workloads-named = length-map (named_first_pods lists) (workload lists)

  pub workloads-count : length (workloads_of lists) ≡ workload_count lists
  workloads-count = workloads-named ∙ count-is lists

  pub number-in_workloads : (place : ℕ) → place < count → workload_number lists place < length (workloads_of lists)
  number-in_workloads place within = omega (arith, number-within lists place within, workloads-named)

  -- the workload at a number is that of a named one
  workload-at : (number : ℕ) (one : Workload) → slice_get (workloads_of lists) number ≡ Some one
      → (thing : Named) × (slice_get (named_first_pods lists) number ≡ Some thing) × (one ≡ workload lists thing)
  unfolding workloads_of
  workload-at number one at =
      by (slice_get (named_first_pods lists) number) refl (sym (slice_get-map (workload lists) (named_first_pods lists) number) ∙ at)
    where
      by : (found : Option Named) → slice_get (named_first_pods lists) number ≡ found → option_map (workload lists) found ≡ Some one
          → (thing : Named) × (slice_get (named_first_pods lists) number ≡ Some thing) × (one ≡ workload lists thing)
      by None is mapped = absurd (none-some one mapped)
      by (Some thing) is mapped = (thing, is, sym (same_Some (workload lists thing) one mapped))

  pub member-by_number : (place number : ℕ) (one : Workload) → place < count → slice_get (workloads_of lists) number ≡ Some one → has_pod place one ≡ (number == workload_number lists place)
  member-by_number place number one within at =
      let (thing, found, is) = workload-at number one at in
      ap (has_pod place) is ∙ has_member-is lists place thing within (place-within lists number thing found) ∙ number-is lists number thing place found within

  -- ---- pods of one workload

  module _ (place place' : ℕ) (a b : Pod) (at : slice_get lists.pods place ≡ Some a) (at' : slice_get lists.pods place' ≡ Some b) where
    in_a : place < count
    in_a = slice_get_within lists.pods place a at

    in_b : place' < count
    in_b = slice_get_within lists.pods place' b at'

    asked : pods_alike lists place place' ≡ are_alike lists a b
    asked = rw (at, at') refl

    alike-of_one : workload_number lists place ≡ workload_number lists place' → Alike lists a b
    alike-of_one same =
        let named_same : Some (named (owner_names lists) (class place)) ≡ Some (named (owner_names lists) (class place')) = sym (named-number lists place in_a) ∙ ap
        (slice_get (named_first_pods lists)) same ∙ named-number lists place' in_b in
        let classes : class place ≡ class place' = ap (λ (found : Option Named). option_map_or (λ one. one.place) found 0) named_same in
        (alike_decide lists a b).0 (sym asked ∙ alike_in_class (pods_alike lists) count (alike-is lists) place place' in_a in_b classes)

    one-of_alike : Alike lists a b → workload_number lists place ≡ workload_number lists place'
    one-of_alike alike =
        number-rank lists place in_a
        ∙ ap (λ (n : ℕ). position_or_len (λ one. one.place == n) (named_first_pods lists))
        (same_class (pods_alike lists) count (alike-is lists) place place' in_a in_b (asked ∙ (alike_decide lists a b).1 alike))
        ∙ sym (number-rank lists place' in_b)

    pub one_workload : (workload_number lists place ≡ workload_number lists place') ↔ Alike lists a b
    one_workload = (alike-of_one, one-of_alike)

  -- ---- the pods of a workload

  -- a number of a workload has a named one, and the workload's members are the pods that are like its first pod
  members-at : (number : ℕ) → number < length (workloads_of lists)
      → (thing : Named) × (slice_get (named_first_pods lists) number ≡ Some thing) × (members_of (folding_of lists) number ≡ pods_like lists (first_of lists thing))
  unfolding folding_of
  members-at number within =
      let (one, at) = slice_get-some (workloads_of lists) number within in
      let (thing, found, is) = workload-at number one at in
      (thing, found, ap (λ (workload : Option Workload). option_map_or (λ other. other.members) workload []) at ∙ ap (λ (workload : Workload). workload.members) is)

  pub pods-within : (number : ℕ) → number < length (workloads_of lists) → All (λ place. place < count) (members_of (folding_of lists) number)
  pods-within number within =
      let (thing, found, is) = members-at number within in
      subst (All (λ place. place < count)) (sym is) (members-within (pods_alike lists) count (first_of lists thing))

  pub pods-ascend : (number : ℕ) → IsStrictlySortedBy nat_cmp (members_of (folding_of lists) number)
  unfolding folding_of IsStrictlySortedBy
  pods-ascend number = by (slice_get (workloads_of lists) number) refl
    where
      by : (found : Option Workload) → slice_get (workloads_of lists) number ≡ found → IsStrictlySortedBy nat_cmp (option_map_or (λ one. one.members) found [])
      by None at = tt
      by (Some one) at =
          let (thing, found, is) = workload-at number one at in
          subst (λ (workload : Workload). IsStrictlySortedBy nat_cmp workload.members) (sym is) (members-ascend (pods_alike lists) count (first_of lists thing))

  -- a first pod comes first among those that are like it
  first-member : (thing : Named) → thing.place < length (first_pods lists) → slice_get (pods_like lists (first_of lists thing)) 0 ≡ Some (first_of lists thing)
  unfolding members firsts
  first-member thing known =
      first-filter (pods_alike lists first) (places count)
      ∙ find_at (pods_alike lists first) (places count)
      ∙ ap (slice_get (places count)) (position_or_len_is (pods_alike lists first) (places count) first 0 (omega (arith, within, length-range_with_len 0 count)) earlier here)
      ∙ slice_get-get_or (places count) first 0 (omega (arith, within, length-range_with_len 0 count))
      ∙ ap Some (at_place first within)
    where
      first : ℕ
      first = first_of lists thing

      within : first < count
      within = first-within lists thing known

      at_place : (k : ℕ) → k < count → get_or (places count) k 0 ≡ k
      at_place k below = omega (arith, get_or-range_with_len 0 count k 0 below)

      alone : is_first (pods_alike lists) first ≡ true
      alone = All-get_or (λ place. is_first (pods_alike lists) place ≡ true) (first_pods lists) thing.place 0 known (filter_passes (is_first (pods_alike lists)) (places count))

      earlier : (k : ℕ) → k < first → pods_alike lists first (get_or (places count) k 0) ≡ false
      earlier k before =
          let below : k < count = omega (arith, within) in
          ap (pods_alike lists first) (at_place k below)
          ∙ false_from_ne_true (pods_alike lists first k) (λ tied.
          true≢false (sym (any_place (λ place. pods_alike lists place first) first k before ((alike-is lists).both_ways first k within below tied)) ∙ not-true _ alone))

      here : first < length (places count) → pods_alike lists first (get_or (places count) first 0) ≡ true
      here _ = ap (pods_alike lists first) (at_place first within) ∙ (alike-is lists).itself first within

  pub first-is : (number : ℕ) → number < length (workloads_of lists) → IsSomeAnd (slice_get (members_of (folding_of lists) number) 0) (λ first. slice_get lists.pods first ≡ first_pod lists number)
  first-is number within =
      let (thing, found, is) = members-at number within in
      let head : slice_get (members_of (folding_of lists) number) 0 ≡ Some (first_of lists thing) = ap (λ (pods : List ℕ). slice_get pods 0) is ∙ first-member thing
      (place-within lists number thing found) in
      subst (λ (found : Option ℕ). IsSomeAnd found (λ first. slice_get lists.pods first ≡ first_pod lists number)) (sym head)
      (sym (ap (option_and_then (λ one. slice_get lists.pods (first_of lists one))) found))

  -- ---- names

  pub workloads-by_name : workload_count lists < 10 ^ 64 → IsStrictlySortedBy (slice_cmp nat_cmp) (map (λ one. one.name) (workloads_of lists))
  unfolding workloads_of
  workloads-by_name few = subst (IsStrictlySortedBy (slice_cmp nat_cmp)) (sym (map-map (λ (one : Workload). one.name) (workload lists) (named_first_pods lists))) (names-strict lists few)

  -- ---- kinds

  first_pod-some : (number : ℕ) → number < workload_count lists → (pod : Pod) × (first_pod lists number ≡ Some pod)
  first_pod-some number within =
      let (thing, found) = slice_get-some (named_first_pods lists) number (omega (arith, count-is lists)) in
      let (pod, at) = slice_get-some lists.pods (first_of lists thing) (first-within lists thing (place-within lists number thing found)) in
      (pod, ap (option_and_then (λ one. slice_get lists.pods (first_of lists one))) found ∙ at)

  first_pod-within : (number : ℕ) (pod : Pod) → first_pod lists number ≡ Some pod → number < workload_count lists
  first_pod-within number pod is = by (slice_get (named_first_pods lists) number) refl is
    where
      by : (found : Option Named) → slice_get (named_first_pods lists) number ≡ found → option_and_then (λ one. slice_get lists.pods (first_of lists one)) found ≡ Some pod →
          number < workload_count lists
      by None at same = absurd (none-some pod same)
      by (Some thing) at same = omega (arith, slice_get_within (named_first_pods lists) number thing at, count-is lists)

  pub one_kind : (number number' : ℕ) (a b : Pod) → first_pod lists number ≡ Some a → first_pod lists number' ≡ Some b
      → (class_of (kinds_alike lists) (workload_count lists) number ≡ class_of (kinds_alike lists) (workload_count lists) number') ↔ IsSameKind lists a b
  one_kind number number' a b at at' =
      let lawful = kinds-are lists (workload_count lists) first_pod-some in
      let in_a : number < workload_count lists = first_pod-within number a at in
      let in_b : number' < workload_count lists = first_pod-within number' b at' in
      let asked : kinds_alike lists number number' ≡ are_same_kind lists a b = rw (at, at') refl in (
        λ same. (kinds_decide lists a b).0 (sym asked ∙ alike_in_class (kinds_alike lists) (workload_count lists) lawful number number' in_a in_b same),
        λ kind. same_class (kinds_alike lists) (workload_count lists) lawful number number' in_a in_b (asked ∙ (kinds_decide lists a b).1 kind),
      )
