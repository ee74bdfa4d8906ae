-- States of choices, and what a requirement leaves of them. For `KeyChoices::can_be` and `next_step`.
use Rattle.std.proofs.Common.{◌≡◌, ℕ, List, [], ◌∷◌, map, filter, Bool, true, false, not, cond, ◌&&◌, ◌||◌, Option, Some, None, is_some, refl, sym, ap, ◌∙◌, subst, if◌then◌else◌, IfSome, zero, suc, ◌<◌, length, get_or, arith}
use Rattle.std.specs.List.{list_all, list_any}
use Rattle.std.specs.Str.{bytes_eq}
use Rattle.std.specs.Cmp.Lexicographic.{bytes_decides}
use Rattle.std.proofs.lemmas.Bool.{and_parts, and_from, or_parts, false≢true, true≢false, not_from_true}
use Rattle.np_exposure.proofs.SameLemmas.{same_side-equal, same_side-refl}
use Rattle.np_exposure.specs.Prelude.{Aside, Choices, IsFork, IsState, IsStepTo, Side, SidedRequirement, allows_found, are_apart, as_wanted, can_be, has_choice, is_apart, is_name_key, is_named_at, is_open, looks_at, narrowed, narrowed_at, same_side, suits}

-- ---- what is left of a state is one

filter-some : {X : Type 0} (test : X → Bool) (xs : List X) → list_any test xs ≡ true → list_any (λ x. true) (filter test xs) ≡ true
filter-some test [] some = absurd (false≢true some)
filter-some {X} test (x ∷ xs) some = by (test x) (filter-some test xs) some
  where
    by : (b : Bool) → (list_any test xs ≡ true → list_any (λ x. true) (filter test xs) ≡ true) → (b || list_any test xs) ≡ true →
        list_any (λ x. true) (cond b (x ∷ filter test xs) (filter test xs)) ≡ true
    by true rest here = refl
    by false rest here = rest here

filter-all : {X : Type 0} (test keep : X → Bool) (xs : List X) → list_all test xs ≡ true → list_all test (filter keep xs) ≡ true
filter-all test keep [] all = refl
filter-all test keep (x ∷ xs) all =
    let parts = and_parts (test x) (list_all test xs) all in
    by (keep x) parts.0 (filter-all test keep xs parts.1)
  where
    by : (b : Bool) → test x ≡ true → list_all test (filter keep xs) ≡ true → list_all test (cond b (x ∷ filter keep xs) (filter keep xs)) ≡ true
    by true here rest = and_from (test x) (list_all test (filter keep xs)) here rest
    by false here rest = rest

module _ (wanted : Bool) (asked : SidedRequirement) where
  open-narrowed : (state : List Choices) → can_be wanted asked state ≡ true → is_open (narrowed wanted asked state) ≡ true
  open-narrowed [] can = refl
  open-narrowed (choices ∷ state) can =
      let parts = and_parts (list_any (suits wanted asked choices) choices.found) (can_be wanted asked state) can in
      and_from (has_choice (narrowed_at wanted asked choices)) (is_open (narrowed wanted asked state)) (filter-some (suits wanted asked choices) choices.found parts.0) (open-narrowed state parts.1)

  apart-from : (choices : Choices) (state : List Choices) → list_all (are_apart (narrowed_at wanted asked choices)) (narrowed wanted asked state) ≡ list_all (are_apart choices) state
  apart-from choices [] = refl
  apart-from choices (other ∷ state) = ap (λ b. are_apart choices other && b) (apart-from choices state)

  pub apart-narrowed : (state : List Choices) → is_apart (narrowed wanted asked state) ≡ is_apart state
  apart-narrowed [] = refl
  apart-narrowed (choices ∷ state) =
      ap (λ b. b && is_apart (narrowed wanted asked state)) (apart-from choices state) ∙ ap (λ b. list_all (are_apart choices) state && b) (apart-narrowed state)

  named_at-narrowed : (choices : Choices) (b : Bool) → (b || list_all (λ found. is_some found) choices.found) ≡ true →
      (b || list_all (λ found. is_some found) (filter (suits wanted asked choices) choices.found)) ≡ true
  named_at-narrowed choices true named = refl
  named_at-narrowed choices false named = filter-all (λ found. is_some found) (suits wanted asked choices) choices.found named

  pub named-narrowed : (state : List Choices) → list_all is_named_at state ≡ true → list_all is_named_at (narrowed wanted asked state) ≡ true
  named-narrowed [] named = refl
  named-narrowed (choices ∷ state) named =
      let parts = and_parts (is_named_at choices) (list_all is_named_at state) named in
      and_from (is_named_at (narrowed_at wanted asked choices)) (list_all is_named_at (narrowed wanted asked state)) (named_at-narrowed choices (not (is_name_key choices.side choices.key)) parts.0)
      (named-narrowed state parts.1)

  -- where some choice at each key is as wanted, those that are make a state
  pub IsState-narrowed : (state : List Choices) → IsState state → can_be wanted asked state ≡ true → IsState (narrowed wanted asked state)
  IsState-narrowed state is can = record {
    «open» = open-narrowed state can;
    apart = apart-narrowed state ∙ is.apart;
    named = named-narrowed state is.named;
  }

-- ---- a requirement that changes nothing

none-wanted : (wanted b : Bool) → as_wanted (not wanted) b ≡ false → as_wanted wanted b ≡ true
none-wanted true true none = refl
none-wanted true false none = absurd (true≢false none)
none-wanted false true none = absurd (true≢false none)
none-wanted false false none = refl

filter-every : {X : Type 0} (test : X → Bool) (xs : List X) → list_all test xs ≡ true → xs ≡ filter test xs
filter-every test [] all = refl
filter-every {X} test (x ∷ xs) all =
    let parts = and_parts (test x) (list_all test xs) all in
    rw parts.0 (ap (λ (rest : List X). x ∷ rest) (filter-every test xs parts.1))

any-every : {X : Type 0} (test : X → Bool) (xs : List X) → list_any (λ x. true) xs ≡ true → list_all test xs ≡ true → list_any test xs ≡ true
any-every test [] some all = some
any-every test (x ∷ xs) some all = rw (and_parts (test x) (list_all test xs) all).0 refl

-- a key that another requirement's key is at is not apart from it
looks-both : (asked : SidedRequirement) (a b : Choices) → looks_at a.side a.key asked ≡ true → looks_at b.side b.key asked ≡ true → are_apart a b ≡ true → ⊥
looks-both asked a b first second apart =
    let one = and_parts (same_side asked.side a.side) (bytes_eq asked.requirement.key a.key) first in
    let two = and_parts (same_side asked.side b.side) (bytes_eq asked.requirement.key b.key) second in
    let sides : a.side ≡ b.side = sym (same_side-equal asked.side a.side one.0) ∙ same_side-equal asked.side b.side two.0 in
    let keys : a.key ≡ b.key = sym ((bytes_decides asked.requirement.key a.key).0 one.1) ∙ (bytes_decides asked.requirement.key b.key).0 two.1 in
    let same : (same_side a.side b.side && bytes_eq a.key b.key) ≡ true =
    and_from (same_side a.side b.side) (bytes_eq a.key b.key) (subst (λ (s : Side). same_side a.side s ≡ true) sides (same_side-refl a.side)) ((bytes_decides a.key b.key).1 keys) in
    false≢true (sym (not_from_true _ same) ∙ apart)

left-false : (x y : Bool) → (x && y) ≡ false → y ≡ true → x ≡ false
left-false true y none is = absurd (true≢false (sym is ∙ none))
left-false false y none is = refl

right-false : (x y : Bool) → (x && y) ≡ false → x ≡ true → y ≡ false
right-false true y none is = none
right-false false y none is = absurd (false≢true is)

module _ (wanted : Bool) (asked : SidedRequirement) where
  -- a key that the requirement does not look at
  every-elsewhere : (choices : Choices) (found : List (Option (List ℕ))) → looks_at choices.side choices.key asked ≡ false → list_all (suits wanted asked choices) found ≡ true
  every-elsewhere choices [] elsewhere = refl
  every-elsewhere choices (x ∷ found) elsewhere =
      and_from (suits wanted asked choices x) (list_all (suits wanted asked choices) found) (rw elsewhere refl) (every-elsewhere choices found elsewhere)

  same-elsewhere : (choices : Choices) → looks_at choices.side choices.key asked ≡ false → choices ≡ narrowed_at wanted asked choices
  same-elsewhere choices elsewhere = ap (λ (found : List (Option (List ℕ))). record choices { found = found })
      (filter-every (suits wanted asked choices) choices.found (every-elsewhere choices choices.found elsewhere))

  can-elsewhere : (choices : Choices) → has_choice choices ≡ true → looks_at choices.side choices.key asked ≡ false → list_any (suits wanted asked choices) choices.found ≡ true
  can-elsewhere choices some elsewhere = any-every (suits wanted asked choices) choices.found some (every-elsewhere choices choices.found elsewhere)

  -- keys that are all apart from one that it looks at
  all-elsewhere : (here : Choices) (state : List Choices) → looks_at here.side here.key asked ≡ true → list_all (are_apart here) state ≡ true → is_open state ≡ true →
      (can_be wanted asked state ≡ true) × (state ≡ narrowed wanted asked state)
  all-elsewhere here [] looks apart «open» = (refl, refl)
  all-elsewhere here (choices ∷ state) looks apart «open» =
      let away = and_parts (are_apart here choices) (list_all (are_apart here) state) apart in
      let some = and_parts (has_choice choices) (is_open state) «open» in
      let elsewhere : looks_at choices.side choices.key asked ≡ false = by (looks_at choices.side choices.key asked) refl away.0 in
      let rest = all-elsewhere here state looks away.1 some.1 in (
        and_from _ (can_be wanted asked state) (can-elsewhere choices some.0 elsewhere) rest.0,
        ap (λ (c : Choices). c ∷ state) (same-elsewhere choices elsewhere) ∙ ap (λ (all : List Choices). narrowed_at wanted asked choices ∷ all) rest.1,
      )
    where
      by : (b : Bool) → looks_at choices.side choices.key asked ≡ b → are_apart here choices ≡ true → b ≡ false
      by true is away = absurd (looks-both asked here choices looks is away)
      by false is away = refl

  none-here : (choices : Choices) (found : List (Option (List ℕ))) → looks_at choices.side choices.key asked ≡ true → list_any (suits (not wanted) asked choices) found ≡ false →
      list_all (suits wanted asked choices) found ≡ true
  none-here choices [] looks none = refl
  none-here choices (x ∷ found) looks none =
      let parts = or_parts (suits (not wanted) asked choices x) (list_any (suits (not wanted) asked choices) found) none in
      let other : as_wanted (not wanted) (allows_found asked x) ≡ false = (or_parts (not (looks_at choices.side choices.key asked)) _ parts.0).1 in
      and_from (suits wanted asked choices x) (list_all (suits wanted asked choices) found) (rw looks (none-wanted wanted (allows_found asked x) other)) (none-here choices found looks parts.1)

module _ (wanted : Bool) (asked : SidedRequirement) where
  -- a requirement that cannot be otherwise is as wanted, and leaves all choices
  pub only-wanted : (state : List Choices) → is_open state ≡ true → is_apart state ≡ true → can_be (not wanted) asked state ≡ false →
      (can_be wanted asked state ≡ true) × (state ≡ narrowed wanted asked state)
  only-wanted [] «open» apart none = absurd (true≢false none)
  only-wanted (choices ∷ state) «open» apart none =
      by (looks_at choices.side choices.key asked) refl (only-wanted state (and_parts (has_choice choices) (is_open state) «open»).1
      (and_parts (list_all (are_apart choices) state) (is_apart state) apart).1)
    where
      some : (has_choice choices ≡ true) × (is_open state ≡ true)
      some = and_parts (has_choice choices) (is_open state) «open»

      away : (list_all (are_apart choices) state ≡ true) × (is_apart state ≡ true)
      away = and_parts (list_all (are_apart choices) state) (is_apart state) apart

      by : (b : Bool) → looks_at choices.side choices.key asked ≡ b → (can_be (not wanted) asked state ≡ false → (can_be wanted asked state ≡ true) × (state ≡ narrowed wanted asked state))
          → (can_be wanted asked (choices ∷ state) ≡ true) × (choices ∷ state ≡ narrowed wanted asked (choices ∷ state))
      by true looks rest =
          let others = all-elsewhere wanted asked choices state looks away.0 some.1 in
          let every = none-here wanted asked choices choices.found looks (left-false _ _ none (all-elsewhere (not wanted) asked choices state looks away.0 some.1).0) in (
            and_from _ (can_be wanted asked state) (any-every (suits wanted asked choices) choices.found some.0 every) others.0,
            ap (λ (c : Choices). c ∷ state) (ap (λ (found : List (Option (List ℕ))). record choices { found = found }) (filter-every (suits wanted asked choices) choices.found every)) ∙ ap
                (λ (all : List Choices). narrowed_at wanted asked choices ∷ all) others.1,
          )
      by false elsewhere rest =
          let more = rest (right-false _ _ none (can-elsewhere (not wanted) asked choices some.0 elsewhere)) in (
            and_from _ (can_be wanted asked state) (can-elsewhere wanted asked choices some.0 elsewhere) more.0,
            ap (λ (c : Choices). c ∷ state) (same-elsewhere wanted asked choices elsewhere) ∙ ap (λ (all : List Choices). narrowed_at wanted asked choices ∷ all) more.1,
          )

-- ---- a step

pub alone-step : (asked : SidedRequirement) (state : List Choices) → IsState state → (can_meet can_miss : Bool) → can_meet ≡ can_be true asked state → can_miss ≡ can_be false asked state →
    (can_meet && can_miss) ≡ false → IsStepTo asked state state None
alone-step asked state is true true meet miss both = absurd (true≢false both)
alone-step asked state is true false meet miss both =
    let only = only-wanted true asked state is.«open» is.apart (sym miss) in
    (true, only.0, sym miss, only.1)
alone-step asked state is false can_miss meet miss both =
    let only = only-wanted false asked state is.«open» is.apart (sym meet) in
    (false, only.0, sym meet, only.1)

choice-of : (b : Bool) (made one other : List Choices) (P : Bool → List Choices → Type 0) → made ≡ (if b then one else other) → P true one → P false other → P b made
choice-of true made one other P is first second = subst (P true) (sym is) first
choice-of false made one other P is first second = subst (P false) (sym is) second

choice-of_not : (b : Bool) (made one other : List Choices) (P : Bool → List Choices → Type 0) → made ≡ (if b then other else one) → P true one → P false other → P (not b) made
choice-of_not true made one other P is first second = subst (P false) (sym is) second
choice-of_not false made one other P is first second = subst (P true) (sym is) first

module _ (asked : SidedRequirement) (state met unmet next : List Choices) (met_is : met ≡ narrowed true asked state) (unmet_is : unmet ≡ narrowed false asked state) where
  fork-states : (aside : Option Aside) → IsState state → can_be true asked state ≡ true → can_be false asked state ≡ true → IsFork met unmet next aside →
      IsState next × IfSome aside (λ a. IsState a.case.state.items)
  fork-states None is can_meet can_miss forked = absurd forked
  fork-states (Some aside) is can_meet can_miss forked =
      let P : Bool → List Choices → Type 0 = λ wanted made. IsState made in
      let one : IsState met = subst IsState (sym met_is) (IsState-narrowed true asked state is can_meet) in
      let other : IsState unmet = subst IsState (sym unmet_is) (IsState-narrowed false asked state is can_miss) in
      (choice-of_not aside.wanted next met unmet P forked.1 one other, choice-of aside.wanted aside.case.state.items met unmet P forked.0 one other)

  -- the same, from the answers of two tests
  pub fork-states-by : (aside : Option Aside) (can_meet can_miss : Bool) → IsState state → can_meet ≡ can_be true asked state → can_miss ≡ can_be false asked state → (can_meet && can_miss) ≡ true →
      IsFork met unmet next aside → IsState next × IfSome aside (λ a. IsState a.case.state.items)
  fork-states-by aside can_meet can_miss is meet miss both forked =
      let parts = and_parts can_meet can_miss both in
      fork-states aside is (sym meet ∙ parts.0) (sym miss ∙ parts.1) forked

-- what is put aside and what is left are those of a step
pub fork-step : (asked : SidedRequirement) (state met unmet next : List Choices) (aside : Option Aside) (can_meet can_miss : Bool) → met ≡ narrowed true asked state → unmet ≡ narrowed false asked state →
    can_meet ≡ can_be true asked state → can_miss ≡ can_be false asked state → (can_meet && can_miss) ≡ true → IsFork met unmet next aside → IsStepTo asked state next aside
fork-step asked state met unmet next None can_meet can_miss met_is unmet_is meet miss both forked = absurd forked
fork-step asked state met unmet next (Some aside) can_meet can_miss met_is unmet_is meet miss both forked =
    let parts = and_parts can_meet can_miss both in
    let P : Bool → List Choices → Type 0 = λ wanted made. made ≡ narrowed wanted asked state in (
      sym meet ∙ parts.0,
      sym miss ∙ parts.1,
      choice-of aside.wanted aside.case.state.items met unmet P forked.0 met_is unmet_is,
      choice-of_not aside.wanted next met unmet P forked.1 met_is unmet_is,
    )

-- ---- what is found

-- a choice that is as wanted is one of those that the contract sees
found-at : {A B : Type 0} (test : B → Bool) (f : A → B) (xs : List A) (i : ℕ) (d : A) → i < length xs → true ≡ test (f (get_or xs i d)) → true ≡ list_any test (map f xs)
found-at test f [] i d within passes = absurd (omega arith)
found-at test f (y ∷ xs) zero d within passes = rw (← passes) refl
found-at test f (y ∷ xs) (suc i) d within passes = by (test (f y)) (found-at test f xs i d (omega arith) passes)
  where
    by : (b : Bool) → true ≡ list_any test (map f xs) → true ≡ (b || list_any test (map f xs))
    by true rest = refl
    by false rest = rest

pub any-mapped : {A B : Type 0} (test : B → Bool) (f : A → B) (xs : List A) (found : List B) (i : ℕ) (d : A) → map f xs ≡ found → i < length xs → true ≡ test (f (get_or xs i d)) →
    true ≡ list_any test found
any-mapped {B = B} test f xs found i d is within passes = found-at test f xs i d within passes ∙ ap (λ (all : List B). list_any test all) is

pub suits-by : (wanted : Bool) (asked : SidedRequirement) (choices : Choices) (looks : Bool) (found : Option (List ℕ)) → looks ≡ looks_at choices.side choices.key asked →
    true ≡ (not looks || as_wanted wanted (allows_found asked found)) → true ≡ suits wanted asked choices found
suits-by wanted asked choices looks found is passes = passes ∙ ap (λ b. not b || as_wanted wanted (allows_found asked found)) is
