-- The choices at first are those of nothing assumed. For `exposure` and `rows_of_mentions`.
use Rattle.std.proofs.Common.{◌≡◌, ℕ, ◌<◌, List, [], ◌∷◌, ◌++◌, length, map, filter, flat_map, fold, Bool, true, false, not, cond, ◌||◌, Option, Some, None, is_some, codes, refl, sym, ap, ◌∙◌, subst, inl, inr, ◌⊎◌, arith, if◌then◌else◌}
use Rattle.std.specs.List.{AllByRecursion, list_all, list_any}
use Rattle.std.specs.Str.{bytes_eq}
use Rattle.std.specs.Cmp.Lexicographic.{bytes_decides, nat_list_eq_equiv}
use Rattle.std.proofs.lemmas.Bool.{and_parts, and_from, false≢true, true≢false, or_cases}
use Rattle.std.proofs.lemmas.List.{length-append}
use Rattle.np_base.proofs.Each.{All-append}
use Rattle.np_exposure.proofs.FirstLemmas.{first-parts}
use Rattle.np_exposure.proofs.ListLemmas.{All-from, IsAmong-filter, list_all-from}
use Rattle.np_exposure.proofs.SameLemmas.{is_same-equal}
use Rattle.np_exposure.proofs.StandsLemmas.{Alike, HasLike, Stands, walked-rows}
use Rattle.np_exposure.specs.Prelude.{Absent, AreRowsOf, AreWalked, Choices, ExposureRow, Namespace, NoneOf, OneOf, Op, Pod, Present, Side, SidedRequirement, Stranger, are_at, choices_at_first, choices_of, each_once, fits_assumed, is_at, is_hypothetical, is_name_key, is_same, keys_on, label_at, labels_at, labels_on, looks_at, meets_all, mentions, other_than, same_side, values_at, with_more}
use Rattle.np_labels.proofs.Distinct.{is_listed-distinct}
use Rattle.np_labels.specs.Prelude.{is_listed, op_allows, value_of}
use Rattle.np_rules.proofs.EachItem.{All-each}
use Rattle.np_rules.specs.Prelude.{IsAmong, PodSide}

-- ---- each requirement stands once

IsAmong-push : {X : Type 0} (x y : X) (xs : List X) → IsAmong x xs ⊎ (x ≡ y) → IsAmong x (xs ++ y ∷ [])
IsAmong-push x y [] (inl among) = absurd among
IsAmong-push x y [] (inr same) = inl same
IsAmong-push x y (z ∷ xs) (inl (inl same)) = inl same
IsAmong-push x y (z ∷ xs) (inl (inr among)) = inr (IsAmong-push x y xs (inl among))
IsAmong-push x y (z ∷ xs) (inr same) = inr (IsAmong-push x y xs (inr same))

IsAmong-pushed : {X : Type 0} (x y : X) (xs : List X) → IsAmong x (xs ++ y ∷ []) → IsAmong x xs ⊎ (x ≡ y)
IsAmong-pushed x y [] (inl same) = inr same
IsAmong-pushed x y [] (inr none) = absurd none
IsAmong-pushed x y (z ∷ xs) (inl same) = inl (inl same)
IsAmong-pushed {X} x y (z ∷ xs) (inr among) = by (IsAmong-pushed x y xs among)
  where
    by : IsAmong x xs ⊎ (x ≡ y) → (((x ≡ z) ⊎ IsAmong x xs) ⊎ (x ≡ y))
    by (inl rest) = inl (inr rest)
    by (inr same) = inr same

known-among : (made : List SidedRequirement) (asked : SidedRequirement) → list_any (λ known. is_same known asked) made ≡ true → IsAmong asked made
known-among [] asked known = absurd (false≢true known)
known-among (one ∷ made) asked known = by (or_cases (is_same one asked) (list_any (λ other. is_same other asked) made) known) (known-among made asked)
  where
    by : (is_same one asked ≡ true) ⊎ (list_any (λ other. is_same other asked) made ≡ true) → (list_any (λ other. is_same other asked) made ≡ true → IsAmong asked made) →
        (asked ≡ one) ⊎ IsAmong asked made
    by (inl same) rest = inl (sym (is_same-equal one asked same))
    by (inr later) rest = inr (rest later)

more-keeps : (made : List SidedRequirement) (one other : SidedRequirement) → IsAmong other made ⊎ (other ≡ one) → IsAmong other (with_more made one)
more-keeps made one other among = by (list_any (λ known. is_same known one) made) refl among
  where
    by : (b : Bool) → list_any (λ known. is_same known one) made ≡ b → IsAmong other made ⊎ (other ≡ one) → IsAmong other (cond b made (made ++ one ∷ []))
    by true known (inl there) = there
    by true known (inr same) = subst (λ (x : SidedRequirement). IsAmong x made) (sym same) (known-among made one known)
    by false known is = IsAmong-push other one made is

more-within : (made : List SidedRequirement) (one other : SidedRequirement) → IsAmong other (with_more made one) → IsAmong other made ⊎ (other ≡ one)
more-within made one other = by (list_any (λ known. is_same known one) made)
  where
    by : (b : Bool) → IsAmong other (cond b made (made ++ one ∷ [])) → IsAmong other made ⊎ (other ≡ one)
    by true among = inl among
    by false among = IsAmong-pushed other one made among

once-keeps : (made all : List SidedRequirement) (asked : SidedRequirement) → IsAmong asked made ⊎ IsAmong asked all → IsAmong asked (fold with_more made all)
once-keeps made [] asked (inl among) = among
once-keeps made [] asked (inr none) = absurd none
once-keeps made (one ∷ all) asked (inl among) = once-keeps (with_more made one) all asked (inl (more-keeps made one asked (inl among)))
once-keeps made (one ∷ all) asked (inr (inl same)) = once-keeps (with_more made one) all asked (inl (more-keeps made one asked (inr same)))
once-keeps made (one ∷ all) asked (inr (inr later)) = once-keeps (with_more made one) all asked (inr later)

once-within : (made all : List SidedRequirement) (asked : SidedRequirement) → IsAmong asked (fold with_more made all) → IsAmong asked made ⊎ IsAmong asked all
once-within made [] asked among = inl among
once-within made (one ∷ all) asked among = by (once-within (with_more made one) all asked among)
  where
    by : IsAmong asked (with_more made one) ⊎ IsAmong asked all → IsAmong asked made ⊎ ((asked ≡ one) ⊎ IsAmong asked all)
    by (inr later) = inr (inr later)
    by (inl there) = at (more-within made one asked there)
      where
        at : IsAmong asked made ⊎ (asked ≡ one) → IsAmong asked made ⊎ ((asked ≡ one) ⊎ IsAmong asked all)
        at (inl known) = inl known
        at (inr same) = inr (inl same)

or-second : {A : Type 0} → ⊥ ⊎ A → A
or-second (inl none) = absurd none
or-second (inr a) = a

-- ---- a value that is not mentioned

list_any-append : {X : Type 0} (test : X → Bool) (xs ys : List X) → list_any test (xs ++ ys) ≡ (list_any test xs || list_any test ys)
list_any-append test [] ys = refl
list_any-append test (x ∷ xs) ys = by (test x) (list_any-append test xs ys)
  where
    by : (b : Bool) → list_any test (xs ++ ys) ≡ (list_any test xs || list_any test ys) → (b || list_any test (xs ++ ys)) ≡ ((b || list_any test xs) || list_any test ys)
    by true rest = refl
    by false rest = rest

long-unlisted : (values : List (List ℕ)) (text : List ℕ) → length (flat_map (λ value. value) values) < length text → is_listed values text ≡ false
long-unlisted [] text long = refl
long-unlisted (value ∷ values) text long =
    let all = length-append value (flat_map (λ one. one) values) in
    by (bytes_eq value text) refl (long-unlisted values text (omega arith))
  where
    by : (b : Bool) → bytes_eq value text ≡ b → is_listed values text ≡ false → (b || is_listed values text) ≡ false
    by false differ rest = rest
    by true same rest =
        let equal = ap length ((bytes_decides value text).0 same) in
        let all = length-append value (flat_map (λ one. one) values) in
        absurd (omega arith)

other-unlisted : (values : List (List ℕ)) → is_listed values (other_than values) ≡ false
other-unlisted values =
    let all = length-append (flat_map (λ value. value) values) (codes "a") in
    long-unlisted values (other_than values) (omega arith)

allows-unlisted : (op : Op) (values : List (List ℕ)) (a b : List ℕ) → is_listed values a ≡ false → is_listed values b ≡ false → op_allows op values (Some a) ≡ op_allows op values (Some b)
allows-unlisted OneOf values a b one two = one ∙ sym two
allows-unlisted NoneOf values a b one two = ap not (one ∙ sym two)
allows-unlisted Present values a b one two = refl
allows-unlisted Absent values a b one two = refl

-- ---- the values that are mentioned with a key

listed-flat : (asked : SidedRequirement) (all : List SidedRequirement) (value : List ℕ) → IsAmong asked all → is_listed asked.requirement.values value ≡ true →
    is_listed (flat_map (λ one. one.requirement.values) all) value ≡ true
listed-flat asked [] value among listed = absurd among
listed-flat asked (one ∷ all) value (inl same) listed =
    list_any-append (λ other. bytes_eq other value) one.requirement.values (flat_map (λ other. other.requirement.values) all)
    ∙ ap (λ b. b || is_listed (flat_map (λ other. other.requirement.values) all) value) (ap (λ (x : SidedRequirement). is_listed x.requirement.values value) (sym same) ∙ listed)
listed-flat asked (one ∷ all) value (inr among) listed =
    list_any-append (λ other. bytes_eq other value) one.requirement.values (flat_map (λ other. other.requirement.values) all)
    ∙ by (is_listed one.requirement.values value) (listed-flat asked all value among listed)
  where
    by : (b : Bool) → is_listed (flat_map (λ other. other.requirement.values) all) value ≡ true → (b || is_listed (flat_map (λ other. other.requirement.values) all) value) ≡ true
    by true rest = refl
    by false rest = rest

values-within : (side : Side) (key : List ℕ) (all : List SidedRequirement) (asked : SidedRequirement) (value : List ℕ) → IsAmong asked all → looks_at side key asked ≡ true →
    is_listed (values_at side key all) value ≡ false → is_listed asked.requirement.values value ≡ false
unfolding values_at
values-within side key all asked value among looks unlisted = by (is_listed asked.requirement.values value) refl
  where
    by : (b : Bool) → is_listed asked.requirement.values value ≡ b → b ≡ false
    by false none = refl
    by true listed =
        let there = listed-flat asked (filter (looks_at side key) all) value (IsAmong-filter (looks_at side key) asked all among looks) listed in
        absurd (true≢false (sym there ∙ sym (is_listed-distinct (flat_map (λ one. one.requirement.values) (filter (looks_at side key) all)) value) ∙ unlisted))

-- ---- each stranger is like a choice

IsAmong-value : (values : List (List ℕ)) (value : List ℕ) (rest : List (Option (List ℕ))) → is_listed values value ≡ true → IsAmong (Some value) (map Some values ++ rest)
IsAmong-value [] value rest listed = absurd (false≢true listed)
IsAmong-value (one ∷ values) value rest listed = by (or_cases (bytes_eq one value) (is_listed values value) listed) (IsAmong-value values value rest)
  where
    by : (bytes_eq one value ≡ true) ⊎ (is_listed values value ≡ true) → (is_listed values value ≡ true → IsAmong (Some value) (map Some values ++ rest)) →
        (Some value ≡ Some one) ⊎ IsAmong (Some value) (map Some values ++ rest)
    by (inl same) later = inl (ap Some (sym ((bytes_decides one value).0 same)))
    by (inr there) later = inr (later there)

IsAmong-back : {X : Type 0} (x : X) (xs ys : List X) → IsAmong x ys → IsAmong x (xs ++ ys)
IsAmong-back x [] ys among = among
IsAmong-back x (y ∷ xs) ys among = inr (IsAmong-back x xs ys among)

module _ (all : List SidedRequirement) (side : Side) (key : List ℕ) where
  abbrev values : List (List ℕ)
  values = values_at side key all

  abbrev choices : Choices
  choices = choices_of (label_at side all key)

  absent-like : (b : Bool) → (b ≡ true → ⊥) → IsAmong None (map Some values ++ Some (other_than values) ∷ (if b then [] else None ∷ []))
  absent-like true named = absurd (named refl)
  absent-like false named = IsAmong-back None (map Some values) (Some (other_than values) ∷ None ∷ []) (inr (inl refl))

  -- of what may be found, one of the choices is the same to all requirements that look there
  like-found : (found : Option (List ℕ)) → (is_name_key side key ≡ true → is_some found ≡ true) → (one : Option (List ℕ)) × IsAmong one choices.found × Alike all choices one found
  like-found None named = (None, absent-like (is_name_key side key) (λ is. false≢true (named is)), All-each _ (λ asked looks. refl) all)
  like-found (Some value) named = by (is_listed values value) refl
    where
      by : (b : Bool) → is_listed values value ≡ b → (one : Option (List ℕ)) × IsAmong one choices.found × Alike all choices one (Some value)
      by true listed = (Some value, IsAmong-value values value _ listed, All-each _ (λ asked looks. refl) all)
      by false unlisted = (
        Some (other_than values),
        IsAmong-back (Some (other_than values)) (map Some values) _ (inl refl),
        All-from _ all (λ asked among looks.
            allows-unlisted asked.requirement.op asked.requirement.values (other_than values) value
            (values-within side key all asked (other_than values) among looks (other-unlisted values)) (values-within side key all asked value among looks unlisted)),
      )

-- under its key a hypothetical pod's namespace has a name
name-some : (s : Stranger) (side : Side) (key : List ℕ) → is_hypothetical s ≡ true → is_name_key side key ≡ true → is_some (value_of (labels_at side s) key) ≡ true
name-some s Namespace key named is =
    subst (λ (k : List ℕ). is_some (value_of s.namespace k) ≡ true) (sym ((bytes_decides key (codes "kubernetes.io/metadata.name")).0 is)) named
name-some s Pod key named is = absurd (false≢true is)

likes-side : (all : List SidedRequirement) (s : Stranger) (side : Side) (keys : List (List ℕ)) → is_hypothetical s ≡ true →
    AllByRecursion (HasLike all s) (map choices_of (map (label_at side all) keys))
likes-side all s side [] named = tt
likes-side all s side (key ∷ keys) named =
    (like-found all side key (value_of (labels_at side s) key) (name-some s side key named), likes-side all s side keys named)

-- ---- each requirement looks at a key

side-at : (all : List SidedRequirement) (side : Side) (keys : List (List ℕ)) (asked : SidedRequirement) → same_side asked.side side ≡ true → is_listed keys asked.requirement.key ≡ true →
    is_at (map choices_of (map (label_at side all) keys)) asked ≡ true
side-at all side [] asked of listed = absurd (false≢true listed)
side-at all side (key ∷ keys) asked of listed = by (or_cases (bytes_eq key asked.requirement.key) (is_listed keys asked.requirement.key) listed) (side-at all side keys asked of)
  where
    by : (bytes_eq key asked.requirement.key ≡ true) ⊎ (is_listed keys asked.requirement.key ≡ true) →
        (is_listed keys asked.requirement.key ≡ true → is_at (map choices_of (map (label_at side all) keys)) asked ≡ true) →
        (looks_at side key asked || is_at (map choices_of (map (label_at side all) keys)) asked) ≡ true
    by (inl same) rest = rw (and_from (same_side asked.side side) (bytes_eq asked.requirement.key key) of (nat_list_eq_equiv.symm asked.requirement.key key ∙ same)) refl
    by (inr there) rest = or-true (looks_at side key asked) (rest there)
      where
        or-true : (b : Bool) → is_at (map choices_of (map (label_at side all) keys)) asked ≡ true → (b || is_at (map choices_of (map (label_at side all) keys)) asked) ≡ true
        or-true true later = refl
        or-true false later = later

key-listed : (asked : SidedRequirement) (all : List SidedRequirement) → IsAmong asked all → is_listed (map (λ one. one.requirement.key) all) asked.requirement.key ≡ true
key-listed asked [] among = absurd among
key-listed asked (one ∷ all) (inl same) =
    ap (λ b. b || is_listed (map (λ other. other.requirement.key) all) asked.requirement.key)
    ((bytes_decides one.requirement.key asked.requirement.key).1 (ap (λ (x : SidedRequirement). x.requirement.key) (sym same)))
key-listed asked (one ∷ all) (inr among) = by (bytes_eq one.requirement.key asked.requirement.key) (key-listed asked all among)
  where
    by : (b : Bool) → is_listed (map (λ other. other.requirement.key) all) asked.requirement.key ≡ true → (b || is_listed (map (λ other. other.requirement.key) all) asked.requirement.key) ≡ true
    by true rest = refl
    by false rest = rest

key-on : (side : Side) (all : List SidedRequirement) (asked : SidedRequirement) → IsAmong asked all → same_side asked.side side ≡ true → is_listed (keys_on side all) asked.requirement.key ≡ true
unfolding keys_on
key-on side all asked among of =
    is_listed-distinct (map (λ one. one.requirement.key) (filter (λ one. same_side one.side side) all)) asked.requirement.key
    ∙ key-listed asked (filter (λ one. same_side one.side side) all) (IsAmong-filter (λ one. same_side one.side side) asked all among of)

is_at-first : (all : List SidedRequirement) (asked : SidedRequirement) → IsAmong asked all → is_at (choices_at_first all) asked ≡ true
is_at-first all asked among =
    ap (λ (state : List Choices). is_at state asked) (first-parts all)
    ∙ list_any-append (λ choices. looks_at choices.side choices.key asked) (map choices_of (labels_on Namespace all)) (map choices_of (labels_on Pod all)) ∙ by asked.side refl
  where
    by : (side : Side) → asked.side ≡ side → (is_at (map choices_of (labels_on Namespace all)) asked || is_at (map choices_of (labels_on Pod all)) asked) ≡ true
    by Namespace of =
        let same : same_side asked.side Namespace ≡ true = ap (λ (s : Side). same_side s Namespace) of in
        rw (side-at all Namespace (keys_on Namespace all) asked same (key-on Namespace all asked among same)) refl
    by Pod of =
        let same : same_side asked.side Pod ≡ true = ap (λ (s : Side). same_side s Pod) of in
        or-back (is_at (map choices_of (labels_on Namespace all)) asked) (side-at all Pod (keys_on Pod all) asked same (key-on Pod all asked among same))
      where
        or-back : (b : Bool) → is_at (map choices_of (labels_on Pod all)) asked ≡ true → (b || is_at (map choices_of (labels_on Pod all)) asked) ≡ true
        or-back true later = refl
        or-back false later = later

-- each requirement that is walked over looks at a key of the first choices
pub are_at-first : (all : List SidedRequirement) → are_at (choices_at_first all) (each_once all) ≡ true
are_at-first all = list_all-from (is_at (choices_at_first all)) (each_once all) (λ asked among. is_at-first all asked (or-second (once-within [] all asked among)))

-- ---- all of it

nothing-fits : (state : List Choices) → list_all (λ choices. list_all (fits_assumed [] choices) choices.found) state ≡ true
nothing-fits [] = refl
nothing-fits (choices ∷ state) = and_from _ _ (each choices.found) (nothing-fits state)
  where
    each : (found : List (Option (List ℕ))) → list_all (fits_assumed [] choices) found ≡ true
    each [] = refl
    each (one ∷ found) = each found

pub Stands-first : (all : List SidedRequirement) → Stands all (each_once all) [] (choices_at_first all)
Stands-first all = record {
  complete = λ s is.
      let named = (and_parts (is_hypothetical s) (meets_all [] s) is).0 in
      subst (AllByRecursion (HasLike all s)) (sym (first-parts all))
      (All-append (HasLike all s) (map choices_of (labels_on Namespace all)) (map choices_of (labels_on Pod all)) (likes-side all s Namespace (keys_on Namespace all) named)
      (likes-side all s Pod (keys_on Pod all) named));
  sound = nothing-fits (choices_at_first all);
  covers = list_all-from (is_at (choices_at_first all)) all (is_at-first all);
  known = refl;
  within = All-from _ (each_once all) (λ asked among. or-second (once-within [] all asked among));
  decided = All-from _ all (λ asked among. inl (once-keeps [] all asked (inr among)));
}

-- the rows that are walked are the rows of the side
pub walked-rows_of : (side walked : PodSide) (all : List SidedRequirement) (rows : List ExposureRow) → walked ≡ side → all ≡ mentions side →
    AreWalked walked (each_once all) (choices_at_first all) rows → AreRowsOf side rows
walked-rows_of side walked all rows same is are =
    let here = subst (λ (p : PodSide). AreWalked p (each_once all) (choices_at_first all) rows) same are in
    let there = subst (λ (ms : List SidedRequirement). AreWalked side (each_once ms) (choices_at_first ms) rows) is here in
    (walked-rows side (each_once (mentions side)) [] (choices_at_first (mentions side)) rows (Stands-first (mentions side)) there).0
