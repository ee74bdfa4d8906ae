-- No two objects of the sample have one name. For SampleLemmas.
use Rattle.std.proofs.Common.{◌≡◌, ℕ, ◌+◌, ◌^◌, ◌<◌, ◌≤◌, List, [], ◌∷◌, ◌++◌, Bool, true, false, not, cond, Option, Some, None, decimal, refl, ◌∙◌, arith}
use Rattle.std.proofs.lemmas.Fmt.{decimal_injective}
use Rattle.std.proofs.lemmas.Iterator.Adapters.{position_from-zero}
use Rattle.std.proofs.lemmas.Slice.Eq.{bytes_eq-Decides}
use Rattle.std.specs.List.{AllByRecursion, position_from}
use Rattle.std.specs.Option.{option_map_or}
use Rattle.std.specs.Str.{bytes_eq}
use Rattle.np_reading.proofs.LawfulLists.{AllLater}
use Rattle.np_base.proofs.Each.{All-append}
use Rattle.np_base.proofs.Bools.{not_both}
use Rattle.np_command_sample.specs.Prelude.{Item, ObjectName}
use Rattle.np_owners.specs.Prelude.{first_repeat, is_item_named, name_of_item, place_of, repeat_after, repeated}
use Rattle.np_sample.specs.Prelude.{namespace_count}
use Rattle.np_command_sample.proofs.LaterLemmas.{later-four}
use Rattle.np_command_sample.proofs.Items.{admin_policy_item, namespace_item, net_policy_item, pod_item, sample_items}

-- ---- lists without repeats

-- whether an item does not have the name of another
abbrev is_apart : Item → Item → Bool
is_apart before one = option_map_or (λ name. not (is_item_named name before)) (name_of_item one) true

abbrev IsApart : Item → Item → Type 0
IsApart before one = is_apart before one ≡ true

not_named : (name : ObjectName) (from : ℕ) (earlier : List Item) → AllByRecursion (λ before. not (is_item_named name before) ≡ true) earlier → position_from (is_item_named name) from earlier ≡ None
not_named name from [] all = refl
not_named name from (before ∷ earlier) all = by (is_item_named name before) all.0 (not_named name (from + 1) earlier all.1)
  where
    by : (b : Bool) → not b ≡ true → position_from (is_item_named name) (from + 1) earlier ≡ None → cond b (Some from) (position_from (is_item_named name) (from + 1) earlier) ≡ None
    by true is rest = cc
    by false is rest = rest

not_repeated : (earlier : List Item) (one : Item) → AllByRecursion (λ before. IsApart before one) earlier → repeated earlier one ≡ None
not_repeated earlier one all = by (name_of_item one) refl
  where
    same : (name : ObjectName) → name_of_item one ≡ Some name → (earlier : List Item) → AllByRecursion (λ before. IsApart before one) earlier →
        AllByRecursion (λ before. not (is_item_named name before) ≡ true) earlier
    same name is [] all = tt
    same name is (before ∷ earlier) all = (rw is at all.0, same name is earlier all.1)

    by : (o : Option ObjectName) → name_of_item one ≡ o → repeated earlier one ≡ None
    by None is = rw is refl
    by (Some name) is =
        let nowhere : place_of earlier name ≡ None = position_from-zero (is_item_named name) earlier ∙ not_named name 0 earlier (same name is earlier all) in
        rw (is, nowhere) refl

-- each item is apart from those before it
none_repeated : (earlier items : List Item) → AllByRecursion (λ one. AllByRecursion (λ before. IsApart before one) earlier) items → AllLater IsApart items → repeat_after earlier items ≡ None
none_repeated earlier [] before later = refl
none_repeated earlier (one ∷ items) before later =
    rw (not_repeated earlier one before.0) (none_repeated (earlier ++ one ∷ []) items (more items before.1 later.0) later.1)
  where
    more : (rest : List Item) → AllByRecursion (λ other. AllByRecursion (λ e. IsApart e other) earlier) rest → AllByRecursion (IsApart one) rest →
        AllByRecursion (λ other. AllByRecursion (λ e. IsApart e other) (earlier ++ one ∷ [])) rest
    more [] all next = tt
    more (other ∷ rest) all next = (All-append (λ e. IsApart e other) earlier (one ∷ []) all.0 (next.0, tt), more rest all.1 next.1)

no_earlier : (items : List Item) → AllByRecursion (λ one. AllByRecursion (λ before. IsApart before one) []) items
no_earlier [] = tt
no_earlier (one ∷ items) = (tt, no_earlier items)

-- ---- names that differ in a number

other_digits : (a b : ℕ) → a < b → b < 2 ^ 64 → bytes_eq (decimal b) (decimal a) ≡ false
other_digits a b below small = by (bytes_eq (decimal b) (decimal a)) refl
  where
    by : (t : Bool) → bytes_eq (decimal b) (decimal a) ≡ t → t ≡ false
    by false is = refl
    by true is = let same = decimal_injective b a small (omega arith) ((bytes_eq-Decides (decimal b) (decimal a)).0 is) in absurd (omega arith)

namespaces_apart : (a b : ℕ) → a < b → b < namespace_count → IsApart (namespace_item a) (namespace_item b)
namespaces_apart a b below within = rw (other_digits a b below (omega arith)) refl

pods_apart : (a b : ℕ) → a < b → b < 2 ^ 64 → IsApart (pod_item a) (pod_item b)
pods_apart a b below small = not_both _ _ (other_digits a b below small)

policies_apart : (a b : ℕ) → a < b → b < namespace_count → IsApart (net_policy_item a) (net_policy_item b)
policies_apart a b below within = rw (other_digits a b below (omega arith)) refl

-- ---- the whole

all_apart : (n : ℕ) → n ≤ 1000 → AllLater IsApart (sample_items n)
all_apart n few =
    later-four IsApart namespace_item pod_item net_policy_item admin_policy_item n namespaces_apart (λ a b below within. pods_apart a b below (omega arith)) policies_apart (λ i j. (refl, refl, refl))
    (λ i. (refl, refl, refl))

pub first_repeat-sample : (n : ℕ) → n ≤ 1000 → first_repeat (sample_items n) ≡ None
first_repeat-sample n few = none_repeated [] (sample_items n) (no_earlier (sample_items n)) (all_apart n few)
