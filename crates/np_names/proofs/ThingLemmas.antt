-- Things put into their places by name. For `each_thing_has_one_number`, `in_order` and 3 more.
use Rattle.std.proofs.Common.{◌≡◌, ℕ, ◌+◌, ◌<◌, ◌≤◌, List, [], ◌∷◌, ◌++◌, length, map, fold, Ordering, Less, Equal, Greater, zero, suc, refl, sym, ap, ◌∙◌, arith, append-nil}
use Rattle.std.specs.Prelude.{All}
use Rattle.std.specs.BTreeSet.{insert_key}
use Rattle.std.specs.Cmp.{IsTotalOrder, nat_cmp_total, on_total, ranked, then_total}
use Rattle.std.specs.Cmp.Lexicographic.{slice_cmp, nat_list_cmp_total}
use Rattle.std.specs.List.{AllByRecursion, range_with_len}
use Rattle.std.specs.List.Sorted.{IsPermutation, IsStrictlySortedBy}
use Rattle.std.specs.Ordering.{match_ordering, nat_cmp, ordering_reverse}
use Rattle.std.proofs.lemmas.List.Elements.{All-from_recursion}
use Rattle.std.proofs.lemmas.List.FromFn.{length-map-range_with_len, map-range_with_len_more}
use Rattle.std.proofs.lemmas.List.Sorted.{All-permutation, IsPermutation-append_left, IsPermutation-cons, IsPermutation-middle, IsPermutation-refl, IsPermutation-sym, IsPermutation-trans, length_permutation}
use Rattle.std.proofs.lemmas.List.Sums.{fold_push}
use Rattle.np_base.proofs.Orders.{second_ties}
use Rattle.np_names.specs.Names.{all_by_name, all_in_turn, compare_named, name_at, named, with_name}
use Rattle.np_names.specs.declared.named.Named.{Named}

-- ---- their order

-- names are ordered by their bytes, and places by their numbers
pub compare_named_total : IsTotalOrder compare_named
compare_named_total = then_total (on_total (λ (one : Named). one.name) nat_list_cmp_total) (on_total (λ (one : Named). one.place) nat_cmp_total)

-- what is below a thing is below all that the thing is below
below-trans : (low thing : Named) (things : List Named) → compare_named low thing ≡ Less → AllByRecursion (λ other. compare_named thing other ≡ Less) things →
    AllByRecursion (λ other. compare_named low other ≡ Less) things
below-trans low thing [] below all = tt
below-trans low thing (other ∷ things) below all = (compare_named_total.trans low thing other below all.0, below-trans low thing things below all.1)

-- what holds of things and of one more holds of all of them together
holds-insert : (P : Named → Type 0) (things : List Named) (thing : Named) → AllByRecursion P things → P thing → AllByRecursion P (insert_key compare_named things thing)
holds-insert P [] thing all more = (more, tt)
holds-insert P (first ∷ things) thing all more = by (compare_named thing first) (holds-insert P things thing all.1 more)
  where
    by : (o : Ordering) → AllByRecursion P (insert_key compare_named things thing) →
        AllByRecursion P (match_ordering o (thing ∷ first ∷ things) (first ∷ things) (first ∷ insert_key compare_named things thing))
    by Less others = (more, all)
    by Equal others = all
    by Greater others = (all.0, others)

-- things in order, and one more in its place, are in order
in_order-insert : (things : List Named) (thing : Named) → IsStrictlySortedBy compare_named things → IsStrictlySortedBy compare_named (insert_key compare_named things thing)
unfolding IsStrictlySortedBy
in_order-insert [] thing in_order = (tt, tt)
in_order-insert (first ∷ things) thing in_order = by (compare_named thing first) refl (in_order-insert things thing in_order.1)
  where
    by : (o : Ordering) → compare_named thing first ≡ o → IsStrictlySortedBy compare_named (insert_key compare_named things thing) →
        IsStrictlySortedBy compare_named (match_ordering o (thing ∷ first ∷ things) (first ∷ things) (first ∷ insert_key compare_named things thing))
    by Less is others = ((is, below-trans thing first things is in_order.0), in_order)
    by Equal is others = in_order
    by Greater is others = (holds-insert (λ other. compare_named first other ≡ Less) things thing in_order.0 (compare_named_total.antisymm first thing ∙ ap ordering_reverse is), others)

in_order-fold : (things more : List Named) → IsStrictlySortedBy compare_named things → IsStrictlySortedBy compare_named (fold (insert_key compare_named) things more)
in_order-fold things [] in_order = in_order
in_order-fold things (first ∷ others) in_order = in_order-fold (insert_key compare_named things first) others (in_order-insert things first in_order)

pub in_order-all_by_name : (wishes : List (List ℕ)) → IsStrictlySortedBy compare_named (all_by_name wishes)
unfolding IsStrictlySortedBy all_by_name
in_order-all_by_name wishes = in_order-fold [] (all_in_turn wishes) tt

-- ---- that none is lost

-- things of which none is before the other have one place
places-apart : (a b : Named) → compare_named a b ≡ Equal → a.place ≡ b.place
places-apart a b same = ranked a.place b.place Equal (sym (second_ties (slice_cmp nat_cmp a.name b.name) (nat_cmp a.place b.place) same))

-- all places are below a count
abbrev ArePlaces : ℕ → List Named → Type 0
ArePlaces count things = AllByRecursion (λ thing. thing.place < count) things

ArePlaces-more : (count : ℕ) (things : List Named) → ArePlaces count things → ArePlaces (count + 1) things
ArePlaces-more count [] all = tt
ArePlaces-more count (first ∷ things) all = (omega (arith, all.0), ArePlaces-more count things all.1)

-- a thing of a place of its own is one more
IsPermutation-insert : (things : List Named) (thing : Named) → ArePlaces thing.place things → IsPermutation (thing ∷ things) (insert_key compare_named things thing)
IsPermutation-insert [] thing places = IsPermutation-refl (thing ∷ [])
IsPermutation-insert (first ∷ things) thing places = by (compare_named thing first) refl (IsPermutation-insert things thing places.1)
  where
    by : (o : Ordering) → compare_named thing first ≡ o → IsPermutation (thing ∷ things) (insert_key compare_named things thing) →
        IsPermutation (thing ∷ first ∷ things) (match_ordering o (thing ∷ first ∷ things) (first ∷ things) (first ∷ insert_key compare_named things thing))
    by Less is others = IsPermutation-refl (thing ∷ first ∷ things)
    by Equal is others = absurd (omega (arith, places.0, places-apart thing first is))
    by Greater is others =
        IsPermutation-trans (thing ∷ first ∷ things) (first ∷ thing ∷ things) (first ∷ insert_key compare_named things thing)
        (IsPermutation-sym (first ∷ thing ∷ things) (thing ∷ first ∷ things) (IsPermutation-middle (first ∷ []) thing things))
        (IsPermutation-cons first (thing ∷ things) (insert_key compare_named things thing) others)

-- so all of them are there
IsPermutation-fold : (wishes : List (List ℕ)) (next count : ℕ) (things : List Named) → ArePlaces next things →
    IsPermutation (things ++ map (named wishes) (range_with_len next count)) (fold (insert_key compare_named) things (map (named wishes) (range_with_len next count)))
IsPermutation-fold wishes next zero things places = rw (append-nil things) (IsPermutation-refl things)
IsPermutation-fold wishes next (suc count) things places =
    let first : Named = named wishes next in
    let others : List Named = map (named wishes) (range_with_len (next + 1) count) in
    IsPermutation-trans (things ++ first ∷ others) (insert_key compare_named things first ++ others) (fold (insert_key compare_named) (insert_key compare_named things first) others)
    (IsPermutation-trans (things ++ first ∷ others) (first ∷ things ++ others) (insert_key compare_named things first ++ others)
    (IsPermutation-middle things first others)
    (IsPermutation-append_left others (first ∷ things) (insert_key compare_named things first) (IsPermutation-insert things first places)))
    (IsPermutation-fold wishes (next + 1) count (insert_key compare_named things first)
    (holds-insert (λ thing. thing.place < next + 1) things first (ArePlaces-more next things places) (omega arith)))

pub IsPermutation-all_by_name : (wishes : List (List ℕ)) → IsPermutation (all_in_turn wishes) (all_by_name wishes)
unfolding all_by_name
IsPermutation-all_by_name wishes = IsPermutation-fold wishes 0 (length wishes) [] tt

pub length-all_by_name : (wishes : List (List ℕ)) → length (all_by_name wishes) ≡ length wishes
length-all_by_name wishes =
    length_permutation (all_in_turn wishes) (all_by_name wishes) (IsPermutation-all_by_name wishes) ∙ length-map-range_with_len (named wishes) 0 (length wishes)

-- each is the thing of its place
abbrev pub IsThing : List (List ℕ) → Named → Type 0
IsThing wishes one = (one ≡ named wishes one.place) × (one.place < length wishes)

things-in-turn : (wishes : List (List ℕ)) (next count : ℕ) → next + count ≤ length wishes → AllByRecursion (IsThing wishes) (map (named wishes) (range_with_len next count))
things-in-turn wishes next zero within = tt
things-in-turn wishes next (suc count) within = ((refl, omega arith), things-in-turn wishes (next + 1) count (omega arith))

pub All-all_by_name : (wishes : List (List ℕ)) → All (IsThing wishes) (all_by_name wishes)
All-all_by_name wishes =
    All-permutation (IsThing wishes) (all_in_turn wishes) (all_by_name wishes) (IsPermutation-all_by_name wishes)
    (All-from_recursion (IsThing wishes) (all_in_turn wishes) (things-in-turn wishes 0 (length wishes) (omega arith)))

-- ---- a walk that puts them into their places

abbrev pub things_before : List (List ℕ) → ℕ → List Named
things_before wishes place = fold (insert_key compare_named) [] (map (named wishes) (range_with_len 0 place))

-- one more thing
pub things-push : (wishes : List (List ℕ)) (name : List ℕ) (place : ℕ) (things after : List Named) → name ≡ name_at wishes place → things ≡ things_before wishes place →
    after ≡ insert_key compare_named things (with_name name place)
    → after ≡ things_before wishes (place + 1)
things-push wishes name place things after is_name is_things is_after =
    is_after
    ∙ ap (λ (n : List ℕ). insert_key compare_named things (with_name n place)) is_name
    ∙ ap (λ (all : List Named). insert_key compare_named all (named wishes place)) is_things
    ∙ sym (fold_push (insert_key compare_named) [] (map (named wishes) (range_with_len 0 place)) (named wishes place))
    ∙ sym (ap (fold (insert_key compare_named) []) (map-range_with_len_more (named wishes) 0 place place (omega arith)))

pub things-all : (wishes : List (List ℕ)) (place : ℕ) (things : List Named) → place ≡ length wishes → things ≡ things_before wishes place → things ≡ all_by_name wishes
unfolding all_by_name
things-all wishes place things all is_things = is_things ∙ ap (things_before wishes) all
