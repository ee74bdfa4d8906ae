-- Tests of all places, one place after another. For `Chains::first_cycle` and `Chains::over_some`.
use Rattle.std.proofs.Common.{◌≡◌, ℕ, suc, ◌+◌, ◌<◌, List, [], ◌∷◌, length, map, Bool, true, false, ◌&&◌, ◌||◌, Option, refl, sym, subst, ◌∙◌}
use Rattle.std.specs.Prelude.{find}
use Rattle.std.specs.List.{list_any, range_with_len}
use Rattle.std.proofs.Math.Bool.{or-false}
use Rattle.std.proofs.Math.Nat.{zero-add}
use Rattle.std.proofs.lemmas.List.{same_lists, get_or_default}
use Rattle.std.proofs.lemmas.List.Folds.{list_any-append}
use Rattle.std.proofs.lemmas.List.FromFn.{length-map-range_with_len, get_or-map-range_with_len}
use Rattle.np_base.proofs.Lists.{range-more}
use Rattle.np_owners.specs.Prelude.{is_at_or_over, is_marked, places_of_owners}

-- one place more passes or not
any_more : (test : ℕ → Bool) (n : ℕ) → list_any test (range_with_len 0 (n + 1)) ≡ (list_any test (range_with_len 0 n) || test n)
any_more test n =
    rw (range-more 0 n n (zero-add n)) (list_any-append test (range_with_len 0 n) (n ∷ []) ∙ rw (or-false (test n)) refl)

-- the first place that passes is a later one, where this one does not
pub find_past : (test : ℕ → Bool) (place left rest : ℕ) → left ≡ suc rest → test place ≡ false → find test (range_with_len place left) ≡ find test (range_with_len (place + 1) rest)
find_past test place left rest more not_here = rw more (rw not_here refl)

-- whether one of the first places is a start that is the place or under it
abbrev is_over_first : List (Option ℕ) → List Bool → ℕ → ℕ → Bool
is_over_first ups starts n above = list_any (λ place. is_marked starts place && is_at_or_over ups above place) (range_with_len 0 n)

-- one place more, which is a start
over_start : (ups : List (Option ℕ)) (starts : List Bool) (n above : ℕ) → is_marked starts n ≡ true →
    is_over_first ups starts (n + 1) above ≡ (is_over_first ups starts n above || is_at_or_over ups above n)
over_start ups starts n above start = any_more (λ place. is_marked starts place && is_at_or_over ups above place) n ∙ rw start refl

-- one place more, which is none
pub over_other : (ups : List (Option ℕ)) (starts : List Bool) (n above : ℕ) → is_marked starts n ≡ false → is_over_first ups starts (n + 1) above ≡ is_over_first ups starts n above
over_other ups starts n above other =
    any_more (λ place. is_marked starts place && is_at_or_over ups above place) n ∙ rw other (or-false (is_over_first ups starts n above))

-- the marks of the first places, with those of one place more, which is a start
pub start_step : (ups lent : List (Option ℕ)) → lent ≡ ups → (starts old before new : List Bool) → before ≡ old → (n : ℕ) → is_marked starts n ≡ true
    → ((above : ℕ) → above < length lent → is_marked new above ≡ (is_marked before above || is_at_or_over lent above n))
    → ((above : ℕ) → above < length ups → is_marked old above ≡ is_over_first ups starts n above)
    → (above : ℕ) → above < length ups → is_marked new above ≡ is_over_first ups starts (n + 1) above
start_step ups lent same starts old before new kept n start marked so_far above below =
    subst (λ (l : List (Option ℕ)). is_marked new above ≡ (is_marked before above || is_at_or_over l above n)) same (marked above (rw same below))
    ∙ rw (kept, so_far above below) (sym (over_start ups starts n above start))

-- marks are the list of what holds of each place
pub marks_are : (test : ℕ → Bool) (ups : List (Option ℕ)) (marks : List Bool) → length marks ≡ length ups → ((place : ℕ) → place < length ups → is_marked marks place ≡ test place) →
    marks ≡ map test (places_of_owners ups)
marks_are test ups marks long each =
    same_lists marks (map test (places_of_owners ups)) (long ∙ sym (length-map-range_with_len test 0 (length ups)))
    (λ k d below. get_or_default marks k d false below ∙ each k (rw long at below) ∙ sym (get_or-map-range_with_len test 0 (length ups) k k d (rw long at below) (zero-add k)))
