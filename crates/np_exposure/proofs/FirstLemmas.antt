-- The choices at first. For `rows_of_mentions`.
use Rattle.std.proofs.Common.{◌≡◌, ℕ, List, [], ◌∷◌, ◌++◌, map, filter, Bool, true, false, not, ◌||◌, Some, None, is_some, refl, ap, ◌∙◌, if◌then◌else◌}
use Rattle.std.specs.List.{list_all, list_any}
use Rattle.std.specs.Cmp.Lexicographic.{slice_cmp}
use Rattle.std.specs.Ordering.{nat_cmp}
use Rattle.std.proofs.lemmas.Bool.{and_parts, and_from}
use Rattle.std.proofs.lemmas.List.{map-append}
use Rattle.np_base.proofs.Lists.{list_all-both}
use Rattle.np_exposure.proofs.SameLemmas.{same_side-refl}
use Rattle.np_exposure.specs.Prelude.{Choices, IsState, MentionedKey, Namespace, Pod, Side, SidedRequirement, are_apart, choices_at_first, choices_of, has_choice, is_apart, is_name_key, is_named_at, is_open, keys_on, label_at, labels_on, mentioned_keys, same_side}
use Rattle.np_labels.proofs.Ascending.{bytes_eq-below}
use Rattle.np_labels.specs.Prelude.{Less-from_test, distinct-ascends, is_ascending, is_below}

-- ---- there is a choice at each key

some-append : {X : Type 0} (front : List X) (x : X) (back : List X) → list_any (λ one. true) (front ++ x ∷ back) ≡ true
some-append [] x back = refl
some-append (y ∷ front) x back = refl

open-first : (labels : List MentionedKey) → is_open (map choices_of labels) ≡ true
open-first [] = refl
open-first (label ∷ labels) = and_from (has_choice (choices_of label)) (is_open (map choices_of labels)) (some-append (map Some label.values) (Some label.other) _) (open-first labels)

-- ---- a namespace always has a name

all-some : (values : List (List ℕ)) (other : List ℕ) → list_all (λ found. is_some found) (map Some values ++ Some other ∷ []) ≡ true
all-some [] other = refl
all-some (value ∷ values) other = all-some values other

named_at-first : (label : MentionedKey) (b : Bool) → (not b || list_all (λ found. is_some found) (map Some label.values ++ Some label.other ∷ (if b then [] else None ∷ []))) ≡ true
named_at-first label true = all-some label.values label.other
named_at-first label false = refl

named-first : (labels : List MentionedKey) → list_all is_named_at (map choices_of labels) ≡ true
named-first [] = refl
named-first (label ∷ labels) = and_from (is_named_at (choices_of label)) (list_all is_named_at (map choices_of labels)) (named_at-first label (is_name_key label.side label.key)) (named-first labels)

-- ---- no key stands twice

module _ (side : Side) (all : List SidedRequirement) where
  abbrev at : List ℕ → Choices
  at key = choices_of (label_at side all key)

  key-apart : (key : List ℕ) (keys : List (List ℕ)) → list_all (is_below key) keys ≡ true → list_all (are_apart (at key)) (map choices_of (map (label_at side all) keys)) ≡ true
  key-apart key [] below = refl
  key-apart key (other ∷ keys) below =
      let parts = and_parts (is_below key other) (list_all (is_below key) keys) below in
      let differ = bytes_eq-below key other (Less-from_test (slice_cmp nat_cmp key other) parts.0) in
      and_from (are_apart (at key) (at other)) _ (rw (same_side-refl side, differ) refl) (key-apart key keys parts.1)

  keys-apart : (keys : List (List ℕ)) → is_ascending keys ≡ true → is_apart (map choices_of (map (label_at side all) keys)) ≡ true
  keys-apart [] ascending = refl
  keys-apart (key ∷ keys) ascending =
      let parts = and_parts (list_all (is_below key) keys) (is_ascending keys) ascending in
      and_from _ (is_apart (map choices_of (map (label_at side all) keys))) (key-apart key keys parts.0) (keys-apart keys parts.1)

  side-apart : is_apart (map choices_of (labels_on side all)) ≡ true
  unfolding keys_on
  side-apart = keys-apart (keys_on side all) (distinct-ascends (map (λ asked. asked.requirement.key) (filter (λ asked. same_side asked.side side) all)))

sides-apart : (all : List SidedRequirement) (key : List ℕ) (keys : List (List ℕ)) → list_all (are_apart (choices_of (label_at Namespace all key))) (map choices_of (map (label_at Pod all) keys)) ≡ true
sides-apart all key [] = refl
sides-apart all key (other ∷ keys) = sides-apart all key keys

both-apart : (all : List SidedRequirement) (keys others : List (List ℕ)) → is_apart (map choices_of (map (label_at Namespace all) keys)) ≡ true →
    is_apart (map choices_of (map (label_at Pod all) others)) ≡ true → is_apart (map choices_of (map (label_at Namespace all) keys) ++ map choices_of (map (label_at Pod all) others)) ≡ true
both-apart all [] others front back = back
both-apart all (key ∷ keys) others front back =
    let parts = and_parts (list_all (are_apart (choices_of (label_at Namespace all key))) (map choices_of (map (label_at Namespace all) keys)))
    (is_apart (map choices_of (map (label_at Namespace all) keys))) front in
    and_from _ (is_apart (map choices_of (map (label_at Namespace all) keys) ++ map choices_of (map (label_at Pod all) others)))
    (list_all-both (are_apart (choices_of (label_at Namespace all key))) (map choices_of (map (label_at Namespace all) keys)) (map choices_of (map (label_at Pod all) others)) parts.0
    (sides-apart all key others))
    (both-apart all keys others parts.1 back)

-- the choices of the namespaces' keys, and then those of the pods'
pub first-parts : (all : List SidedRequirement) → choices_at_first all ≡ map choices_of (labels_on Namespace all) ++ map choices_of (labels_on Pod all)
first-parts all = map-append choices_of (labels_on Namespace all) (labels_on Pod all)

-- the choices at first are a state
pub IsState-first : (all : List SidedRequirement) → IsState (choices_at_first all)
IsState-first all = record {
  «open» = open-first (mentioned_keys all);
  apart = ap is_apart (first-parts all) ∙ both-apart all (keys_on Namespace all) (keys_on Pod all) (side-apart Namespace all) (side-apart Pod all);
  named = named-first (mentioned_keys all);
}
