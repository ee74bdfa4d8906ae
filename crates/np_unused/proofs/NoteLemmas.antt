-- What is noted of rules, one after another. For `note_firsts`, `note_head` and 2 more.
use Rattle.std.proofs.Common.{◌≡◌, ◌⊎◌, ℕ, ◌<◌, length, get_or, arith, List, [], ◌∷◌, ◌++◌, Bool, true, false, ◌&&◌, ◌||◌, ◌==◌, not, Option, Some, None, is_some, refl, sym, ap, ◌∙◌, inl, inr, subst, if◌then◌else◌}
use Rattle.std.specs.List.{list_all, list_any}
use Rattle.std.specs.Option.{option_or}
use Rattle.std.proofs.lemmas.Bool.{and_from, and_parts, false≢true, or_cases, or_left, or_right}
use Rattle.std.proofs.lemmas.Bool.Decides.{eqb_tells}
use Rattle.std.proofs.Math.Bool.{or-false}
use Rattle.np_unused.proofs.FirstLemmas.{any-first_rule, first_rule-append}
use Rattle.np_unused.specs.Prelude.{AdminPart, Flags, Notes, RuleId, RuleSpots, first_rule, flag_at, hands_down, names}

-- ---- nothing, and one thing after another

pub notes_none : {Spot : Type 0} (test : Spot → ℕ → ℕ → Bool) (flags : Flags) → ((spot : Spot) (policy place : ℕ) → test spot policy place ≡ true → flag_at flags policy place ≡ true) →
    Notes test flags flags
notes_none test flags known = record { grows = λ policy place set. set; finds = known; only = λ policy place set. inl set }

pub notes_as : {Spot : Type 0} (test noted : Spot → ℕ → ℕ → Bool) (old new : Flags) → ((spot : Spot) (policy place : ℕ) → test spot policy place ≡ true → noted spot policy place ≡ true) →
    ((spot : Spot) (policy place : ℕ) → noted spot policy place ≡ true → test spot policy place ≡ true) → Notes noted old new → Notes test old new
notes_as {Spot} test noted old new to from notes = record {
  grows = notes.grows;
  finds = λ spot policy place is. notes.finds spot policy place (to spot policy place is);
  only = λ policy place set. by policy place (notes.only policy place set);
}
  where
    by : (policy place : ℕ) → (flag_at old policy place ≡ true) ⊎ ((spot : Spot) × (noted spot policy place ≡ true)) →
        (flag_at old policy place ≡ true) ⊎ ((spot : Spot) × (test spot policy place ≡ true))
    by policy place (inl before) = inl before
    by policy place (inr found) = inr (found.0, from found.0 policy place found.1)

pub notes_both : {Spot : Type 0} (test first second : Spot → ℕ → ℕ → Bool) (old middle new : Flags) →
    ((spot : Spot) (policy place : ℕ) → test spot policy place ≡ (first spot policy place || second spot policy place)) → Notes first old middle → Notes second middle new → Notes test old new
notes_both {Spot} test first second old middle new is one other = record {
  grows = λ policy place set. other.grows policy place (one.grows policy place set);
  finds = λ spot policy place passes. found spot policy place (or_cases (first spot policy place) (second spot policy place) (sym (is spot policy place) ∙ passes));
  only = λ policy place set. by policy place (other.only policy place set);
}
  where
    found : (spot : Spot) (policy place : ℕ) → (first spot policy place ≡ true) ⊎ (second spot policy place ≡ true) → flag_at new policy place ≡ true
    found spot policy place (inl here) = other.grows policy place (one.finds spot policy place here)
    found spot policy place (inr here) = other.finds spot policy place here

    earlier : (policy place : ℕ) → (flag_at old policy place ≡ true) ⊎ ((spot : Spot) × (first spot policy place ≡ true)) →
        (flag_at old policy place ≡ true) ⊎ ((spot : Spot) × (test spot policy place ≡ true))
    earlier policy place (inl before) = inl before
    earlier policy place (inr here) = inr (here.0, is here.0 policy place ∙ or_left (first here.0 policy place) (second here.0 policy place) here.1)

    by : (policy place : ℕ) → (flag_at middle policy place ≡ true) ⊎ ((spot : Spot) × (second spot policy place ≡ true)) →
        (flag_at old policy place ≡ true) ⊎ ((spot : Spot) × (test spot policy place ≡ true))
    by policy place (inl before) = earlier policy place (one.only policy place before)
    by policy place (inr here) = inr (here.0, is here.0 policy place ∙ or_right (first here.0 policy place) (second here.0 policy place) here.1)

-- ---- one rule

-- a rule that is named by a policy and a place is that of these
named_is : (P : ℕ → ℕ → Type 0) (id : RuleId) (policy place : ℕ) → names (Some id) policy place ≡ true → P id.policy id.place → P policy place
named_is P id policy place named holds =
    let both = and_parts (policy == id.policy) (place == id.place) named in
    elim (eqb_tells policy id.policy) [
      | inl same ↦ elim (eqb_tells place id.place) [
        | inl alike ↦ subst (λ (p : ℕ). P p place) (sym same.1) (subst (P id.policy) (sym alike.1) holds)
        | inr other ↦ absurd (false≢true (sym other.0 ∙ both.1))
      ]
      | inr other ↦ absurd (false≢true (sym other.0 ∙ both.0))
    ]

abbrev one_test : {Spot : Type 0} → (Spot → Bool) → (Spot → Bool) → RuleId → Spot → ℕ → ℕ → Bool
one_test left set rule spot policy place = left spot && names (if set spot then Some rule else None) policy place

one_passes : (left set : Bool) (rule : RuleId) (policy place : ℕ) → (left && names (if set then Some rule else None) policy place) ≡ true →
    ((left && set) ≡ true) × (names (Some rule) policy place ≡ true)
one_passes true true rule policy place is = (refl, is)
one_passes true false rule policy place is = absurd (false≢true is)
one_passes false set rule policy place is = absurd (false≢true is)

one_is : (left set : Bool) (rule : RuleId) (policy place : ℕ) → (left && set) ≡ true → names (Some rule) policy place ≡ true → (left && names (if set then Some rule else None) policy place) ≡ true
one_is true true rule policy place both named = named
one_is true false rule policy place both named = absurd (false≢true both)
one_is false set rule policy place both named = absurd (false≢true both)

module _ {Spot : Type 0} (left set hit : Spot → Bool) (rule : RuleId) (is_hit : (spot : Spot) → hit spot ≡ (left spot && set spot)) where
  pub one_missed : (flags : Flags) → ((spot : Spot) → hit spot ≡ false) → Notes (one_test left set rule) flags flags
  one_missed flags none = notes_none (one_test left set rule) flags
      (λ spot policy place is. absurd (false≢true (sym (none spot) ∙ is_hit spot ∙ (one_passes (left spot) (set spot) rule policy place is).0)))

  pub one_noted : (old new : Flags) → (spot : Spot) × (hit spot ≡ true) →
      ((policy place : ℕ) → flag_at new policy place ≡ (flag_at old policy place || (policy == rule.policy && place == rule.place))) → Notes (one_test left set rule) old new
  one_noted old new some sets = record {
    grows = λ policy place before. sets policy place ∙ or_left (flag_at old policy place) _ before;
    finds = λ spot policy place is. sets policy place ∙ or_right (flag_at old policy place) _ (one_passes (left spot) (set spot) rule policy place is).1;
    only = λ policy place after. by policy place (or_cases (flag_at old policy place) _ (sym (sets policy place) ∙ after));
  }
    where
      by : (policy place : ℕ) → (flag_at old policy place ≡ true) ⊎ (names (Some rule) policy place ≡ true) →
          (flag_at old policy place ≡ true) ⊎ ((spot : Spot) × (one_test left set rule spot policy place ≡ true))
      by policy place (inl before) = inl before
      by policy place (inr named) = inr (some.0, one_is (left some.0) (set some.0) rule policy place (sym (is_hit some.0) ∙ some.1) named)

-- ---- lists of rules

-- the rules that are the first to match a spot of `left`
abbrev pub firsts_test : {S Spot : Type 0} → (S → Spot → Bool) → (Spot → Bool) → List (RuleSpots S) → Spot → ℕ → ℕ → Bool
firsts_test has left rules spot policy place = left spot && names (first_rule (λ set. has set spot) rules) policy place

-- where all rules are known, so is the first
pub first_known : {S : Type 0} (at : S → Bool) (flags : Flags) (rules : List (RuleSpots S)) → list_all (λ one. flag_at flags one.rule.policy one.rule.place) rules ≡ true → (policy place : ℕ) →
    names (first_rule at rules) policy place ≡ true → flag_at flags policy place ≡ true
first_known at flags [] all policy place named = absurd (false≢true named)
first_known {S} at flags (one ∷ rules) all policy place named =
    let both = and_parts (flag_at flags one.rule.policy one.rule.place) _ all in
    by (at one.set.now) both.0 (first_known at flags rules both.1 policy place) named
  where
    by : (b : Bool) → flag_at flags one.rule.policy one.rule.place ≡ true → (names (first_rule at rules) policy place ≡ true → flag_at flags policy place ≡ true) →
        names (if b then Some one.rule else first_rule at rules) policy place ≡ true → flag_at flags policy place ≡ true
    by true here later is = named_is (λ p n. flag_at flags p n ≡ true) one.rule policy place is here
    by false here later is = later is

by_first : (left matched : Bool) (first second : Option RuleId) (policy place : ℕ) → matched ≡ is_some first →
    (left && names (option_or first second) policy place) ≡ (((left && matched) && names first policy place) || ((left && not matched) && names second policy place))
by_first false matched first second policy place is = refl
by_first true matched None second policy place is = rw is refl
by_first true matched (Some id) second policy place is = rw is (sym (or-false (names (Some id) policy place)))

module _ {S Spot : Type 0} (has : S → Spot → Bool) (left : Spot → Bool) (rules : List (RuleSpots S)) where
  pub none_left : (flags : Flags) → ((spot : Spot) → left spot ≡ false) → Notes (firsts_test has left rules) flags flags
  none_left flags none = notes_none (firsts_test has left rules) flags (λ spot policy place is. absurd (false≢true (sym (none spot) ∙ (and_parts (left spot) _ is).0)))

  pub all_noted : (flags : Flags) → list_all (λ one. flag_at flags one.rule.policy one.rule.place) rules ≡ true → Notes (firsts_test has left rules) flags flags
  all_noted flags all = notes_none (firsts_test has left rules) flags (λ spot policy place is. first_known (λ set. has set spot) flags rules all policy place (and_parts (left spot) _ is).1)

  pub halves_noted : (front back : List (RuleSpots S)) (matched met rest : Spot → Bool) (old middle new : Flags) → front ++ back ≡ rules →
      ((spot : Spot) → matched spot ≡ list_any (λ rule. has rule.set.now spot) front) → ((spot : Spot) → met spot ≡ (left spot && matched spot)) →
      ((spot : Spot) → rest spot ≡ (left spot && not (matched spot))) → Notes (firsts_test has met front) old middle → Notes (firsts_test has rest back) middle new →
      Notes (firsts_test has left rules) old new
  halves_noted front back matched met rest old middle new split is_matched is_met is_rest =
      notes_both (firsts_test has left rules) (firsts_test has met front) (firsts_test has rest back) old middle new
      (λ spot policy place.
      let at : S → Bool = λ set. has set spot in
      ap (λ (all : List (RuleSpots S)). left spot && names (first_rule at all) policy place) (sym split)
      ∙ ap (λ (first : Option RuleId). left spot && names first policy place) (first_rule-append at front back)
      ∙ by_first (left spot) (matched spot) (first_rule at front) (first_rule at back) policy place (is_matched spot ∙ any-first_rule at front)
      ∙ ap (λ (b : Bool). (b && names (first_rule at front) policy place) || ((left spot && not (matched spot)) && names (first_rule at back) policy place)) (sym (is_met spot))
      ∙ ap (λ (b : Bool). (met spot && names (first_rule at front) policy place) || (b && names (first_rule at back) policy place)) (sym (is_rest spot)))

-- ---- tiers

-- the same rules, by their places
module _ {S Spot : Type 0} (has : S → Spot → Bool) (rules : List (RuleSpots S)) (first : Spot → Option RuleId) (is_first : (spot : Spot) → first_rule (λ set. has set spot) rules ≡ first spot) where
  pub tier_known : (left : Spot → Bool) (flags : Flags) → list_all (λ one. flag_at flags one.rule.policy one.rule.place) rules ≡ true →
      Notes (λ spot policy place. left spot && names (first spot) policy place) flags flags
  tier_known left flags all =
      notes_none (λ spot policy place. left spot && names (first spot) policy place) flags
      (λ spot policy place is. first_known (λ set. has set spot) flags rules all policy place (ap (λ (id : Option RuleId). names id policy place) (is_first spot) ∙ (and_parts (left spot) _ is).1))

  pub tier_noted : (in_space hands : Spot → Bool) (left : S) → ((spot : Spot) → in_space spot ≡ true → has left spot ≡ hands spot) → ((spot : Spot) → has left spot ≡ true → in_space spot ≡ true) →
      (old new : Flags) → Notes (firsts_test has (has left) rules) old new → Notes (λ spot policy place. (in_space spot && hands spot) && names (first spot) policy place) old new
  tier_noted in_space hands left members inside old new =
      notes_as (λ spot policy place. (in_space spot && hands spot) && names (first spot) policy place) (firsts_test has (has left) rules) old new
      (λ spot policy place is.
      let both = and_parts (in_space spot && hands spot) _ is in
      let there = and_parts (in_space spot) _ both.0 in
      and_from (has left spot) _ (members spot there.0 ∙ there.1) (ap (λ (id : Option RuleId). names id policy place) (is_first spot) ∙ both.1))
      (λ spot policy place is.
      let both = and_parts (has left spot) _ is in
      let here = inside spot both.0 in
      and_from (in_space spot && hands spot) _ (and_from (in_space spot) _ here (sym (members spot here) ∙ both.0)) (ap (λ (id : Option RuleId). names id policy place) (sym (is_first spot)) ∙ both.1))

-- the first rule, where no tier is above
module _ {S Spot : Type 0} (has : S → Spot → Bool) (in_space : Spot → Bool) (head : RuleSpots S) (old new : Flags)
    (sets : (policy place : ℕ) → flag_at new policy place ≡ (flag_at old policy place || (policy == head.rule.policy && place == head.rule.place))) (policy place : ℕ) where
  pub head_only : (above : List (AdminPart S)) (rules : List (RuleSpots S)) → length above ≡ 0 → 0 < length rules → head ≡ get_or rules 0 head →
      (spot : Spot) × (in_space spot ≡ true) × (has head.set.now spot ≡ true) → flag_at new policy place ≡ true →
      (flag_at old policy place ≡ true) ⊎ ((spot : Spot) × (((in_space spot && hands_down (λ set. has set spot) above) && names (first_rule (λ set. has set spot) rules) policy place) ≡ true))
  head_only (part ∷ above) rules none there is some after = absurd (omega arith)
  head_only [] [] none there is some after = absurd (omega arith)
  head_only [] (first ∷ rules) none there is some after = by (or_cases (flag_at old policy place) _ (sym (sets policy place) ∙ after))
    where
      named_first : names (Some head.rule) policy place ≡ true → names (first_rule (λ set. has set some.0) (first ∷ rules)) policy place ≡ true
      named_first named = subst (λ (one : RuleSpots S). names (first_rule (λ set. has set some.0) (one ∷ rules)) policy place ≡ true) is (rw some.2 named)

      by : (flag_at old policy place ≡ true) ⊎ (names (Some head.rule) policy place ≡ true) →
          (flag_at old policy place ≡ true) ⊎ ((spot : Spot) × (((in_space spot && true) && names (first_rule (λ set. has set spot) (first ∷ rules)) policy place) ≡ true))
      by (inl before) = inl before
      by (inr named) = inr (some.0, and_from (in_space some.0 && true) _ (and_from (in_space some.0) true some.1 refl) (named_first named))

-- what is noted after some of it was
module _ {S Spot : Type 0} (has : S → Spot → Bool) (rules : List (RuleSpots S)) (first : Spot → Option RuleId) (is_first : (spot : Spot) → first_rule (λ set. has set spot) rules ≡ first spot) where
  pub noted_after : (left : Spot → Bool) (old middle new : Flags) → ((policy place : ℕ) → flag_at old policy place ≡ true → flag_at middle policy place ≡ true) →
      ((policy place : ℕ) → flag_at middle policy place ≡ true → (flag_at old policy place ≡ true) ⊎
      ((spot : Spot) × ((left spot && names (first_rule (λ set. has set spot) rules) policy place) ≡ true))) →
      Notes (λ spot policy place. left spot && names (first spot) policy place) middle new → Notes (λ spot policy place. left spot && names (first spot) policy place) old new
  noted_after left old middle new grows only notes = record {
    grows = λ policy place set. notes.grows policy place (grows policy place set);
    finds = notes.finds;
    only = λ policy place set. by policy place (notes.only policy place set);
  }
    where
      earlier : (policy place : ℕ) → (flag_at old policy place ≡ true) ⊎ ((spot : Spot) × ((left spot && names (first_rule (λ set. has set spot) rules) policy place) ≡ true)) →
          (flag_at old policy place ≡ true) ⊎ ((spot : Spot) × ((left spot && names (first spot) policy place) ≡ true))
      earlier policy place (inl before) = inl before
      earlier policy place (inr found) = inr (found.0, ap (λ (id : Option RuleId). left found.0 && names id policy place) (sym (is_first found.0)) ∙ found.1)

      by : (policy place : ℕ) → (flag_at middle policy place ≡ true) ⊎ ((spot : Spot) × ((left spot && names (first spot) policy place) ≡ true)) →
          (flag_at old policy place ≡ true) ⊎ ((spot : Spot) × ((left spot && names (first spot) policy place) ≡ true))
      by policy place (inl before) = earlier policy place (only policy place before)
      by policy place (inr found) = inr found
