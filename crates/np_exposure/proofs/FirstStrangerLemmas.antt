-- The hypothetical pod of the first choices has labels among the choices. For `stranger_of`.
use Rattle.std.proofs.Common.{◌≡◌, ℕ, List, [], ◌∷◌, ◌++◌, reverse, flat_map, Bool, true, false, not, cond, ◌||◌, Option, Some, None, is_some, codes, refl, sym, ap, ap₂, ◌∙◌, subst, inl}
use Rattle.std.specs.List.{AllByRecursion, list_all, list_any}
use Rattle.std.specs.Option.{option_or}
use Rattle.std.specs.Str.{bytes_eq}
use Rattle.std.specs.Cmp.Lexicographic.{bytes_decides, nat_list_eq_equiv}
use Rattle.std.proofs.lemmas.Bool.{and_parts, and_from, false≢true, not-true, true≢false}
use Rattle.std.proofs.lemmas.List.{reverse-append}
use Rattle.np_base.proofs.Each.{All-weaker}
use Rattle.np_base.proofs.Options.{option_or-none, is_some-or}
use Rattle.np_exposure.proofs.SameLemmas.{same_side-equal, same_side-refl}
use Rattle.np_exposure.specs.Prelude.{Choices, IsChosen, IsState, IsWitness, Namespace, Pair, Pod, Side, Stranger, are_apart, first_found, first_label, first_on, first_stranger, has_choice, is_apart, is_name_key, is_named_at, is_open, label_if, labels_at, same_side}
use Rattle.np_labels.specs.Prelude.{last_value_of, value_of}
use Rattle.np_rules.specs.Prelude.{IsAmong}

-- ---- labels that are joined

value_of-append : (xs ys : List Pair) (key : List ℕ) → value_of (xs ++ ys) key ≡ option_or (value_of xs key) (value_of ys key)
value_of-append [] ys key = refl
value_of-append (pair ∷ xs) ys key = by (bytes_eq pair.key key) (value_of-append xs ys key)
  where
    by : (b : Bool) → value_of (xs ++ ys) key ≡ option_or (value_of xs key) (value_of ys key) →
        cond b (Some pair.value) (value_of (xs ++ ys) key) ≡ option_or (cond b (Some pair.value) (value_of xs key)) (value_of ys key)
    by true rest = refl
    by false rest = rest

-- what comes later counts
last-append : (xs ys : List Pair) (key : List ℕ) → last_value_of (xs ++ ys) key ≡ option_or (last_value_of ys key) (last_value_of xs key)
last-append xs ys key = ap (λ (pairs : List Pair). value_of pairs key) (reverse-append xs ys) ∙ value_of-append (reverse ys) (reverse xs) key

-- ---- the labels of all first choices

-- choices that are apart are not of one side and key
apart-keys : (a b : Choices) (side : Side) → same_side a.side side ≡ true → same_side b.side side ≡ true → bytes_eq a.key b.key ≡ true → are_apart a b ≡ true → ⊥
apart-keys a b side first second same away =
    let sides : a.side ≡ b.side = same_side-equal a.side side first ∙ sym (same_side-equal b.side side second) in
    let both = and_from (same_side a.side b.side) (bytes_eq a.key b.key) (subst (λ (s : Side). same_side a.side s ≡ true) sides (same_side-refl a.side)) same in
    true≢false (sym both ∙ not-true _ away)

-- the label of another key is none of this one
label-none : (side : Side) (choices : Choices) (key : List ℕ) → (same_side choices.side side ≡ true → bytes_eq choices.key key ≡ true → ⊥) → value_of (first_label side choices) key ≡ None
label-none side choices key other = by (same_side choices.side side) refl (bytes_eq choices.key key) refl (first_found choices.found)
  where
    by : (b : Bool) → same_side choices.side side ≡ b → (k : Bool) → bytes_eq choices.key key ≡ k → (found : Option (List ℕ)) → value_of (label_if choices.key (cond b found None)) key ≡ None
    by false elsewhere k same found = refl
    by true of k same None = refl
    by true of false differ (Some value) = rw differ refl
    by true of true same (Some value) = absurd (other of same)

others-none : (side : Side) (here : Choices) (state : List Choices) → same_side here.side side ≡ true → list_all (are_apart here) state ≡ true →
    value_of (flat_map (first_label side) state) here.key ≡ None
others-none side here [] of apart = refl
others-none side here (other ∷ state) of apart =
    let parts = and_parts (are_apart here other) (list_all (are_apart here) state) apart in
    value_of-append (first_label side other) (flat_map (first_label side) state) here.key
    ∙ ap (λ (found : Option (List ℕ)). option_or found (value_of (flat_map (first_label side) state) here.key))
    (label-none side other here.key (λ also same. apart-keys here other side of also (nat_list_eq_equiv.symm here.key other.key ∙ same) parts.0))
    ∙ others-none side here state of parts.1

-- no key of them stands twice, so that the last with a key is the first
one-label : (key other : List ℕ) (found : Option (List ℕ)) → last_value_of (label_if key found) other ≡ value_of (label_if key found) other
one-label key other None = refl
one-label key other (Some value) = refl

either-first : (a b : Option (List ℕ)) → b ≡ None → option_or a b ≡ option_or b a
either-first a b none = rw none (option_or-none a)

last-first : (side : Side) (state : List Choices) → is_apart state ≡ true → (key : List ℕ) →
    last_value_of (flat_map (first_label side) state) key ≡ value_of (flat_map (first_label side) state) key
last-first side [] apart key = refl
last-first side (choices ∷ state) apart key =
    let parts = and_parts (list_all (are_apart choices) state) (is_apart state) apart in
    last-append (first_label side choices) (flat_map (first_label side) state) key
    ∙ ap₂ (λ (later here : Option (List ℕ)). option_or later here) (last-first side state parts.1 key) (one-label choices.key key (first_on side choices))
    ∙ by (same_side choices.side side) refl (bytes_eq choices.key key) refl parts.0
    ∙ sym (value_of-append (first_label side choices) (flat_map (first_label side) state) key)
  where
    by : (b : Bool) → same_side choices.side side ≡ b → (k : Bool) → bytes_eq choices.key key ≡ k → list_all (are_apart choices) state ≡ true →
        option_or (value_of (flat_map (first_label side) state) key) (value_of (first_label side choices) key) ≡ option_or (value_of (first_label side choices) key)
        (value_of (flat_map (first_label side) state) key)
    by true of true same apart =
        sym (either-first _ _ (subst (λ (other : List ℕ). value_of (flat_map (first_label side) state) other ≡ None) ((bytes_decides choices.key key).0 same)
        (others-none side choices state of apart)))
    by true of false differ apart = either-first _ _ (label-none side choices key (λ also same. false≢true (sym differ ∙ same)))
    by false away k same apart = either-first _ _ (label-none side choices key (λ also same. false≢true (sym away ∙ also)))

-- each key of the side has its first choice
abbrev HasFirst : Side → List Pair → Choices → Type 0
HasFirst side labels choices = same_side choices.side side ≡ true → value_of labels choices.key ≡ first_found choices.found

own-label : (key : List ℕ) (found : Option (List ℕ)) → value_of (label_if key found) key ≡ found
own-label key None = refl
own-label key (Some value) = rw (nat_list_eq_equiv.refl key) refl

later-first : (side : Side) (here : Choices) (labels : List Pair) (state : List Choices) → list_all (are_apart here) state ≡ true → AllByRecursion (HasFirst side labels) state →
    AllByRecursion (HasFirst side (first_label side here ++ labels)) state
later-first side here labels [] apart all = tt
later-first side here labels (choices ∷ state) apart all =
    let parts = and_parts (are_apart here choices) (list_all (are_apart here) state) apart in (
      λ of.
          value_of-append (first_label side here) labels choices.key
          ∙ ap (λ (found : Option (List ℕ)). option_or found (value_of labels choices.key)) (label-none side here choices.key (λ also same. apart-keys here choices side also of same parts.0))
          ∙ all.0 of,
      later-first side here labels state parts.1 all.1,
    )

all-first : (side : Side) (state : List Choices) → is_apart state ≡ true → AllByRecursion (HasFirst side (flat_map (first_label side) state)) state
all-first side [] apart = tt
all-first side (choices ∷ state) apart =
    let parts = and_parts (list_all (are_apart choices) state) (is_apart state) apart in (
      λ of.
          value_of-append (first_label side choices) (flat_map (first_label side) state) choices.key
          ∙ ap (λ b. option_or (value_of (label_if choices.key (cond b (first_found choices.found) None)) choices.key) (value_of (flat_map (first_label side) state) choices.key)) of
          ∙ ap (λ (found : Option (List ℕ)). option_or found (value_of (flat_map (first_label side) state) choices.key)) (own-label choices.key (first_found choices.found))
          ∙ ap (λ (found : Option (List ℕ)). option_or (first_found choices.found) found) (others-none side choices state of parts.0)
          ∙ option_or-none (first_found choices.found),
      later-first side choices (flat_map (first_label side) state) state parts.0 (all-first side state parts.1),
    )

-- ---- the pod

first-among : (found : List (Option (List ℕ))) → list_any (λ one. true) found ≡ true → IsAmong (first_found found) found
first-among [] some = absurd (false≢true some)
first-among (one ∷ found) some = inl refl

-- the name that a namespace has where no key says another
abbrev name : List Pair
name = record { key = codes "kubernetes.io/metadata.name"; value = codes "a" } ∷ []

name-found : (found : List (Option (List ℕ))) (key : List ℕ) (is_name : Bool) → is_name ≡ bytes_eq key (codes "kubernetes.io/metadata.name") → list_any (λ one. true) found ≡ true →
    (not is_name || list_all (λ one. is_some one) found) ≡ true → option_or (first_found found) (value_of name key) ≡ first_found found
name-found [] key is_name same some all = absurd (false≢true some)
name-found (Some value ∷ found) key is_name same some all = refl
name-found (None ∷ found) key true same some all = absurd (false≢true all)
name-found (None ∷ found) key false same some all = rw (nat_list_eq_equiv.symm (codes "kubernetes.io/metadata.name") key ∙ sym same) refl

module _ (state : List Choices) (is : IsState state) where
  abbrev s : Stranger
  s = first_stranger state

  chosen : (rest : List Choices) → AllByRecursion (HasFirst Namespace (flat_map (first_label Namespace) state)) rest → AllByRecursion (HasFirst Pod (flat_map (first_label Pod) state)) rest →
      is_open rest ≡ true → list_all is_named_at rest ≡ true → AllByRecursion (IsChosen s) rest
  chosen [] first second «open» names = tt
  chosen (choices ∷ rest) first second «open» names =
      let some = and_parts (has_choice choices) (is_open rest) «open» in
      let named = and_parts (is_named_at choices) (list_all is_named_at rest) names in
      (by choices.side refl first.0 second.0 some.0 named.0, chosen rest first.1 second.1 some.1 named.1)
    where
      by : (side : Side) → choices.side ≡ side → HasFirst Namespace (flat_map (first_label Namespace) state) choices → HasFirst Pod (flat_map (first_label Pod) state) choices →
          has_choice choices ≡ true → is_named_at choices ≡ true
          → IsAmong (value_of (labels_at side s) choices.key) choices.found
      by Namespace of first second some named =
          let found : value_of s.namespace choices.key ≡ first_found choices.found =
          value_of-append (flat_map (first_label Namespace) state) name choices.key
          ∙ ap (λ (one : Option (List ℕ)). option_or one (value_of name choices.key)) (first (ap (λ (a : Side). same_side a Namespace) of))
          ∙ name-found choices.found choices.key (bytes_eq choices.key (codes "kubernetes.io/metadata.name")) refl some
          (subst (λ (a : Side). (not (is_name_key a choices.key) || list_all (λ one. is_some one) choices.found) ≡ true) of named) in
          subst (λ (one : Option (List ℕ)). IsAmong one choices.found) (sym found) (first-among choices.found some)
      by Pod of first second some named =
          subst (λ (one : Option (List ℕ)). IsAmong one choices.found) (sym (second (ap (λ (a : Side). same_side a Pod) of))) (first-among choices.found some)

  pub IsWitness-first_stranger : IsWitness state s
  IsWitness-first_stranger = record {
    named =
        ap (λ (found : Option (List ℕ)). is_some found) (value_of-append (flat_map (first_label Namespace) state) name (codes "kubernetes.io/metadata.name"))
        ∙ is_some-or (value_of (flat_map (first_label Namespace) state) (codes "kubernetes.io/metadata.name")) (codes "a");
    chosen = chosen state (all-first Namespace state is.apart) (all-first Pod state is.apart) is.«open» is.named;
  }

  -- the labels that are put together say the same
  pub IsWitness-of : (made : Stranger) (empty first none : List Pair) → empty ≡ [] → first ≡ empty ++ record { key = codes "kubernetes.io/metadata.name"; value = codes "a" } ∷ [] → none ≡ []
      → ((key : List ℕ) → value_of made.namespace key ≡ last_value_of (first ++ flat_map (first_label Namespace) state) key)
      → ((key : List ℕ) → value_of made.labels key ≡ last_value_of (none ++ flat_map (first_label Pod) state) key) → IsWitness state made
  IsWitness-of made empty first none empty_is one none_is front back = record {
    named = ap (λ (found : Option (List ℕ)). is_some found) (agrees Namespace (codes "kubernetes.io/metadata.name")) ∙ IsWitness-first_stranger.named;
    chosen = All-weaker (IsChosen s) (IsChosen made)
        (λ choices among. subst (λ (found : Option (List ℕ)). IsAmong found choices.found) (sym (agrees choices.side choices.key)) among) state IsWitness-first_stranger.chosen;
  }
    where
      agrees : (side : Side) (key : List ℕ) → value_of (labels_at side made) key ≡ value_of (labels_at side s) key
      agrees Namespace key =
          front key ∙ ap (λ (pairs : List Pair). last_value_of (pairs ++ flat_map (first_label Namespace) state) key) (one ∙ ap (λ (pairs : List Pair). pairs ++ name) empty_is)
          ∙ last-append name (flat_map (first_label Namespace) state) key
          ∙ ap (λ (found : Option (List ℕ)). option_or found (value_of name key)) (last-first Namespace state is.apart key)
          ∙ sym (value_of-append (flat_map (first_label Namespace) state) name key)
      agrees Pod key =
          back key ∙ ap (λ (pairs : List Pair). last_value_of (pairs ++ flat_map (first_label Pod) state) key) none_is ∙ last-first Pod state is.apart key
