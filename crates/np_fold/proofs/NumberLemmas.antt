-- The numbers of pods and of workloads. For FoldLemmas, MemberLemmas and 2 more.
use Rattle.std.proofs.Common.{◌≡◌, ℕ, ◌^◌, ◌<◌, ◌==◌, ◌&&◌, List, [], ◌∷◌, ◌++◌, map, length, slice_get, Bool, true, Option, Some, refl, sym, ap, subst, ◌∙◌, arith, eq-eqb}
use Rattle.std.specs.Prelude.{All, codes, filter, slice_index}
use Rattle.std.specs.Cmp.Lexicographic.{slice_cmp}
use Rattle.std.specs.List.{list_any, position_or_len}
use Rattle.std.specs.List.Sorted.{IsStrictlySortedBy}
use Rattle.std.specs.Option.{option_map_or}
use Rattle.std.specs.Ordering.{nat_cmp}
use Rattle.std.proofs.lemmas.Bool.{and_parts, eqb-true}
use Rattle.std.proofs.lemmas.List.{length-map}
use Rattle.std.proofs.lemmas.List.Elements.{All-get_or, All-map, All-weaker}
use Rattle.std.proofs.lemmas.List.FromFn.{get_or-map-range_with_len, length-map-range_with_len}
use Rattle.std.proofs.lemmas.Option.{slice_get-get_or, slice_get_within}
use Rattle.std.specs.Cmp.{both_ways}
use Rattle.np_base.proofs.Lists.{slice_get-some}
use Rattle.np_base.proofs.Bools.{eq-swap}
use Rattle.np_classes.specs.Classes.{class_of, members, numbered, places}
use Rattle.np_classes.proofs.Lists.{All-places, any_filter, any_place, filter_agree_on, place_that_passes, position_agree_on}
use Rattle.np_classes.proofs.Relations.{alike_in_class, class_of_first, class_within, firsts_within, same_class}
use Rattle.np_fold.specs.Prelude.{EstateLists, Named, Pod, first_of, first_pods, has_pod, named_first_pods, owner_name, owner_name_at, owner_names, pods_alike, pods_like, workload, workload_number, workloads_of}
use Rattle.np_fold.proofs.AlikeLemmas.{alike-is}
use Rattle.np_names.specs.Names.{EndsInBracket, named}
use Rattle.np_names.proofs.NumberLemmas.{names-in-order, number-of-one, one-of-place}
use Rattle.np_names.proofs.ThingLemmas.{All-all_by_name, IsThing, length-all_by_name}

-- ---- lists

-- a test of the items of a list, and of what they give
position_or_len-map : {X Y : Type 0} (p : Y → Bool) (f : X → Y) (xs : List X) → position_or_len p (map f xs) ≡ position_or_len (λ x. p (f x)) xs
position_or_len-map p f [] = refl
position_or_len-map p f (x ∷ xs) = rw (position_or_len-map p f xs) refl

-- a place is a member exactly where it is alike
member-is : (alike : ℕ → ℕ → Bool) (count first place : ℕ) → place < count → list_any (λ member. member == place) (members alike count first) ≡ alike first place
unfolding members
member-is alike count first place within =
    any_filter (alike first) (λ member. member == place) (places count)
    ∙ both_ways (list_any (λ member. alike first member && member == place) (places count)) (alike first place) there here
  where
    there : list_any (λ member. alike first member && member == place) (places count) ≡ true → alike first place ≡ true
    there found =
        let (k, below, passes) = place_that_passes (λ member. alike first member && member == place) count found in
        let both : (alike first k ≡ true) × ((k == place) ≡ true) = and_parts (alike first k) (k == place) passes in
        subst (λ (n : ℕ). alike first n ≡ true) (eqb-true k place both.1) both.0

    here : alike first place ≡ true → list_any (λ member. alike first member && member == place) (places count) ≡ true
    here is = any_place (λ member. alike first member && member == place) count place within (rw (is, eq-eqb place place refl) refl)

module _ (lists : EstateLists) where
  -- how many pods there are, and the number of the class of each
  abbrev count : ℕ
  count = length lists.pods

  abbrev class : ℕ → ℕ
  class place = class_of (pods_alike lists) (length lists.pods) place

  -- ---- the first pods

  pub count-is : length (named_first_pods lists) ≡ length (first_pods lists)
  count-is = length-all_by_name (owner_names lists) ∙ length-map (first_pods lists) (owner_name_at lists)

  names-count : length (owner_names lists) ≡ length (first_pods lists)
  names-count = length-map (first_pods lists) (owner_name_at lists)

  pub named-within : All (λ one. one.place < length (first_pods lists)) (named_first_pods lists)
  named-within =
      All-weaker (IsThing (owner_names lists)) (λ one. one.place < length (first_pods lists)) (λ one is. subst (λ (n : ℕ). one.place < n) names-count is.1)
      (named_first_pods lists) (All-all_by_name (owner_names lists))

  -- the first pod of a named one stands among the first pods
  first-at : (one : Named) → one.place < length (first_pods lists) → slice_get (first_pods lists) one.place ≡ Some (first_of lists one)
  first-at one within = slice_get-get_or (first_pods lists) one.place 0 within

  pub first-within : (one : Named) → one.place < length (first_pods lists) → first_of lists one < count
  first-within one within = All-get_or (λ first. first < count) (first_pods lists) one.place 0 within (firsts_within (pods_alike lists) count)

  -- and is of the class of its number
  class-first : (one : Named) → one.place < length (first_pods lists) → class_of (pods_alike lists) count (first_of lists one) ≡ one.place
  class-first one within = class_of_first (pods_alike lists) count (alike-is lists) one.place (first_of lists one) (first-at one within)

  -- ---- numbers of pods

  -- a pod is in a workload exactly where the first pod of its class is its first pod
  pub has_member-is : (place : ℕ) (one : Named) → place < count → one.place < length (first_pods lists)
      → has_pod place (workload lists one) ≡ (one.place == class place)
  has_member-is place one within known =
      member-is (pods_alike lists) count (first_of lists one) place within
      ∙ both_ways (pods_alike lists (first_of lists one) place) (one.place == class place)
      (λ tied. eq-eqb one.place (class place)
      (sym (class-first one known) ∙ same_class (pods_alike lists) count (alike-is lists) (first_of lists one) place (first-within one known) within tied))
      (λ same. alike_in_class (pods_alike lists) count (alike-is lists) (first_of lists one) place (first-within one known) within
      (class-first one known ∙ eqb-true one.place (class place) same))

  pub number-rank : (place : ℕ) → place < count → workload_number lists place ≡ position_or_len (λ one. one.place == class place) (named_first_pods lists)
  unfolding workload_number workloads_of
  number-rank place within =
      position_or_len-map (has_pod place) (workload lists) (named_first_pods lists)
      ∙ position_agree_on (λ one. has_pod place (workload lists one)) (λ one. one.place == class place) (named_first_pods lists)
      (All-weaker (λ one. one.place < length (first_pods lists)) (λ one. has_pod place (workload lists one) ≡ (one.place == class place))
      (λ one known. has_member-is place one within known) (named_first_pods lists) named-within)

  -- the workload of a pod is there, and it is that of its class
  class-within : (place : ℕ) → place < count → class place < length (owner_names lists)
  class-within place within =
      subst (λ (n : ℕ). class place < n) (sym names-count) (class_within (pods_alike lists) count (alike-is lists) place within)

  pub number-within : (place : ℕ) → place < count → workload_number lists place < length (named_first_pods lists)
  number-within place within =
      let there = (one-of-place (owner_names lists) (class place) (class-within place within)).0 in
      omega (arith, there, number-rank place within, length-all_by_name (owner_names lists))

  pub named-number : (place : ℕ) → place < count → slice_get (named_first_pods lists) (workload_number lists place) ≡ Some (named (owner_names lists) (class place))
  named-number place within =
      ap (slice_get (named_first_pods lists)) (number-rank place within)
      ∙ (one-of-place (owner_names lists) (class place) (class-within place within)).1

  -- ---- the named one at a number

  at-number : (number : ℕ) (one : Named) → slice_get (named_first_pods lists) number ≡ Some one →
      (one ≡ named (owner_names lists) one.place) × (one.place < length (owner_names lists)) × (position_or_len (λ other. other.place == one.place) (named_first_pods lists) ≡ number)
  at-number number one at =
      number-of-one (owner_names lists) number one (omega (arith, slice_get_within (named_first_pods lists) number one at, length-all_by_name (owner_names lists))) at

  pub place-within : (number : ℕ) (one : Named) → slice_get (named_first_pods lists) number ≡ Some one → one.place < length (first_pods lists)
  place-within number one at = subst (λ (n : ℕ). one.place < n) names-count (at-number number one at).1

  -- a pod is of its class exactly where it has its number
  pub number-is : (number : ℕ) (one : Named) (place : ℕ) → slice_get (named_first_pods lists) number ≡ Some one → place < count
      → (one.place == class place) ≡ (number == workload_number lists place)
  number-is number one place at within =
      both_ways (one.place == class place) (number == workload_number lists place)
      (λ same. eq-eqb number (workload_number lists place)
      (sym (at-number number one at).2
      ∙ ap (λ (n : ℕ). position_or_len (λ other. other.place == n) (named_first_pods lists)) (eqb-true one.place (class place) same)
      ∙ sym (number-rank place within)))
      (λ same.
      let here : Some one ≡ Some (named (owner_names lists) (class place)) = sym at ∙ ap (slice_get (named_first_pods lists)) (eqb-true number (workload_number lists place) same)
      ∙ named-number place within in
      let one_is : one ≡ named (owner_names lists) (class place) = cc in
      eq-eqb one.place (class place) (ap (λ (other : Named). other.place) one_is))

  -- ---- members

  -- the pods of a workload are those of its number
  pub members-by_number : (number : ℕ) (one : Named) → slice_get (named_first_pods lists) number ≡ Some one →
      pods_like lists (first_of lists one) ≡ numbered (map (workload_number lists) (places count)) number
  unfolding members
  members-by_number number one at =
      filter_agree_on (pods_alike lists (first_of lists one)) (λ place. slice_index (map (workload_number lists) (places count)) place == number) (places count)
      (All-places (λ place. pods_alike lists (first_of lists one) place ≡ (slice_index (map (workload_number lists) (places count)) place == number)) count each)
      ∙ ap (λ (n : ℕ). filter (λ place. slice_index (map (workload_number lists) (places count)) place == number) (places n)) (sym (length-map-range_with_len (workload_number lists) 0 count))
    where
      each : (place : ℕ) → place < count → pods_alike lists (first_of lists one) place ≡ (slice_index (map (workload_number lists) (places count)) place == number)
      each place within =
          sym (member-is (pods_alike lists) count (first_of lists one) place within)
          ∙ has_member-is place one within (place-within number one at)
          ∙ number-is number one place at within
          ∙ eq-swap number (workload_number lists place)
          ∙ ap (λ (n : ℕ). n == number) (sym (get_or-map-range_with_len (workload_number lists) 0 count place place 0 within (omega arith)))

  pub numbers-within : All (λ number. number < length (named_first_pods lists)) (map (workload_number lists) (places count))
  numbers-within =
      All-map (λ number. number < length (named_first_pods lists)) (workload_number lists) (places count)
      (All-places (λ place. workload_number lists place < length (named_first_pods lists)) count number-within)

  pub classes-within : All (λ number. number < length (first_pods lists)) (map class (places count))
  classes-within =
      All-map (λ number. number < length (first_pods lists)) class (places count)
      (All-places (λ place. class place < length (first_pods lists)) count (class_within (pods_alike lists) count (alike-is lists)))

  -- ---- names

  -- each name that is wished for ends in a bracket
  brackets : All EndsInBracket (owner_names lists)
  brackets =
      All-map EndsInBracket (owner_name_at lists) (first_pods lists)
      (All-weaker (λ first. first < count) (λ first. EndsInBracket (owner_name_at lists first)) each (first_pods lists) (firsts_within (pods_alike lists) count))
    where
      each : (first : ℕ) → first < count → EndsInBracket (owner_name_at lists first)
      each first within =
          let (pod, at) = slice_get-some lists.pods first within in
          let before : List ℕ = pod.namespace ++ codes "/" ++ pod.owner.name ++ codes "[" ++ pod.owner.kind in
          (before, ap (λ (found : Option Pod). option_map_or owner_name found []) at)

  -- there are fewer than numbers of 64 digits, past which texts of numbers are not told apart
  pub names-strict : length (first_pods lists) < 10 ^ 64 → IsStrictlySortedBy (slice_cmp nat_cmp) (map (λ one. one.name) (named_first_pods lists))
  names-strict few = names-in-order (owner_names lists) brackets (subst (λ (n : ℕ). n < 10 ^ 64) (sym names-count) few)
