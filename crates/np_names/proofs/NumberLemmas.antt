-- The numbers of things among those in order. For `each_thing_has_one_number`, `names_stand_in_order` and crates above.
use Rattle.std.proofs.Common.{◌≡◌, ℕ, ◌^◌, ◌<◌, ◌==◌, List, [], ◌∷◌, false, length, get_or, slice_get, Some, map, Ordering, Less, Equal, Greater, refl, sym, ap, subst, ◌∙◌, arith}
use Rattle.std.specs.Prelude.{All, Contains}
use Rattle.std.specs.Cmp.{nat_cmp_total}
use Rattle.std.specs.Cmp.Lexicographic.{slice_cmp}
use Rattle.std.specs.List.{AllByRecursion}
use Rattle.std.specs.List.Sorted.{IsStrictlySortedBy}
use Rattle.std.specs.Ordering.{nat_cmp, ordering_then}
use Rattle.std.proofs.lemmas.Bool.{eq-eqb, ne_eqb}
use Rattle.std.proofs.lemmas.Cmp.{tied_itself}
use Rattle.std.proofs.lemmas.List.Elements.{recursion_from_All}
use Rattle.std.proofs.lemmas.List.FromFn.{get_or-map-range_with_len, length-map-range_with_len}
use Rattle.std.proofs.lemmas.List.Sorted.{Contains-permutation}
use Rattle.std.proofs.lemmas.List.Sums.{position_or_len_is}
use Rattle.std.proofs.lemmas.Map.Keys.{Less-from_sorted}
use Rattle.std.proofs.lemmas.Map.Lookups.{exact_bytes}
use Rattle.std.proofs.lemmas.Option.{get_or_from_slice_get, slice_get-get_or}
use Rattle.np_names.proofs.ApartLemmas.{names-apart}
use Rattle.np_names.proofs.ThingLemmas.{All-all_by_name, IsPermutation-all_by_name, IsThing, compare_named_total, in_order-all_by_name, length-all_by_name}
use Rattle.np_names.specs.Names.{EndsInBracket, all_by_name, all_in_turn, compare_named, name_at, named, number_of}
use Rattle.np_names.specs.declared.named.Named.{Named}

-- ---- places and numbers

-- the thing at a number, which stands there first
pub number-of-one : (wishes : List (List ℕ)) (number : ℕ) (one : Named) → number < length wishes → slice_get (all_by_name wishes) number ≡ Some one
    → (one ≡ named wishes one.place) × (one.place < length wishes) × (number_of wishes one.place ≡ number)
number-of-one wishes number one within at = (
  thing.0,
  thing.1,
  position_or_len_is (λ other. other.place == one.place) things number one (omega (arith, in_things)) before
      (λ _. eq-eqb (get_or things number one).place one.place (ap (λ other. other.place) here)),
)
  where
    things : List Named
    things = all_by_name wishes

    in_things : number < length things
    in_things = omega (arith, length-all_by_name wishes)

    here : get_or things number one ≡ one
    here = get_or_from_slice_get things number one one at

    thing : IsThing wishes one
    thing = subst (IsThing wishes) here (All-all_by_name wishes number one in_things)

    before : (k : ℕ) → k < number → ((get_or things k one).place == one.place) ≡ false
    before k earlier =
        let other = get_or things k one in
        let is_thing : IsThing wishes other = All-all_by_name wishes k one (omega (arith, in_things)) in
        let less : compare_named other one ≡ Less = ap (compare_named other) (sym here) ∙ Less-from_sorted compare_named things k number one (in_order-all_by_name wishes) earlier in_things in
        ne_eqb other.place one.place (λ same.
        let one_thing : other ≡ one = is_thing.0 ∙ ap (named wishes) same ∙ sym thing.0 in
        let tied : compare_named other one ≡ Equal = ap (compare_named other) (sym one_thing) ∙ tied_itself compare_named_total other in
        cc)

-- the number at which the thing of a place stands
pub one-of-place : (wishes : List (List ℕ)) (place : ℕ) → place < length wishes
    → (number_of wishes place < length wishes) × (slice_get (all_by_name wishes) (number_of wishes place) ≡ Some (named wishes place))
one-of-place wishes place within =
    let number : number_of wishes place ≡ there.0 = (number-of-one wishes there.0 (named wishes place) in_wishes at).2 in
    (omega (arith, number, in_wishes), ap (slice_get (all_by_name wishes)) number ∙ at)
  where
    in_turn : Contains (all_in_turn wishes) (named wishes place)
    in_turn = (
      place,
      omega (arith, length-map-range_with_len (named wishes) 0 (length wishes)),
      get_or-map-range_with_len (named wishes) 0 (length wishes) place place (named wishes place) within
          (omega arith),
    )

    there : Contains (all_by_name wishes) (named wishes place)
    there = Contains-permutation (all_in_turn wishes) (all_by_name wishes) (named wishes place) (IsPermutation-all_by_name wishes) in_turn

    in_wishes : there.0 < length wishes
    in_wishes = omega (arith, there.1, length-all_by_name wishes)

    at : slice_get (all_by_name wishes) there.0 ≡ Some (named wishes place)
    at = slice_get-get_or (all_by_name wishes) there.0 (named wishes place) there.1 ∙ ap Some there.2

-- ---- names in order

-- things that do not share their names are in the order of those alone
less-by-name : (wishes : List (List ℕ)) → All EndsInBracket wishes → length wishes < 10 ^ 64 → (a b : Named) → IsThing wishes a → IsThing wishes b → compare_named a b ≡ Less →
    slice_cmp nat_cmp a.name b.name ≡ Less
less-by-name wishes brackets few a b a_is b_is less = by (slice_cmp nat_cmp a.name b.name) refl less
  where
    by : (o : Ordering) → slice_cmp nat_cmp a.name b.name ≡ o → ordering_then o (nat_cmp a.place b.place) ≡ Less → o ≡ Less
    by Less is all = refl
    by Equal is all =
        let names : name_at wishes a.place ≡ name_at wishes b.place = sym (ap (λ one. one.name) a_is.0) ∙ exact_bytes a.name b.name is ∙ ap (λ one. one.name) b_is.0 in
        let places : a.place ≡ b.place = names-apart wishes a.place b.place brackets few a_is.1 b_is.1 names in
        let tied : nat_cmp a.place b.place ≡ Equal = ap (nat_cmp a.place) (sym places) ∙ tied_itself nat_cmp_total a.place in
        cc
    by Greater is all = cc

names-below : (wishes : List (List ℕ)) → All EndsInBracket wishes → length wishes < 10 ^ 64 → (one : Named) (others : List Named) → IsThing wishes one → AllByRecursion (IsThing wishes) others
    → AllByRecursion (λ other. compare_named one other ≡ Less) others → AllByRecursion (λ name. slice_cmp nat_cmp one.name name ≡ Less) (map (λ other. other.name) others)
names-below wishes brackets few one [] is are below = tt
names-below wishes brackets few one (other ∷ others) is are below =
    (less-by-name wishes brackets few one other is are.0 below.0, names-below wishes brackets few one others is are.1 below.1)

names-ascend : (wishes : List (List ℕ)) → All EndsInBracket wishes → length wishes < 10 ^ 64 → (things : List Named) → AllByRecursion (IsThing wishes) things
    → IsStrictlySortedBy compare_named things → IsStrictlySortedBy (slice_cmp nat_cmp) (map (λ one. one.name) things)
unfolding IsStrictlySortedBy
names-ascend wishes brackets few [] are in_order = tt
names-ascend wishes brackets few (one ∷ others) are in_order =
    (names-below wishes brackets few one others are.0 are.1 in_order.0, names-ascend wishes brackets few others are.1 in_order.1)

pub names-in-order : (wishes : List (List ℕ)) → All EndsInBracket wishes → length wishes < 10 ^ 64 → IsStrictlySortedBy (slice_cmp nat_cmp) (map (λ one. one.name) (all_by_name wishes))
names-in-order wishes brackets few =
    names-ascend wishes brackets few (all_by_name wishes) (recursion_from_All (IsThing wishes) (all_by_name wishes) (All-all_by_name wishes)) (in_order-all_by_name wishes)
