-- Where one choice is left at each key, the requirements that are left change nothing. For `rows_of`.
use Rattle.std.proofs.Common.{◌≡◌, ℕ, ◌≤◌, List, [], ◌∷◌, length, Bool, true, false, not, cond, ◌&&◌, ◌||◌, Option, Some, None, refl, sym, ap, ◌∙◌, subst, arith}
use Rattle.std.specs.List.{list_any}
use Rattle.std.proofs.lemmas.Bool.{and_parts, eqb-true, false≢true, true≢false}
use Rattle.np_exposure.proofs.StandsLemmas.{all_at-narrowed}
use Rattle.np_exposure.proofs.StateLemmas.{alone-step}
use Rattle.np_exposure.proofs.WalkLemmas.{IsFilled, walked-alone}
use Rattle.np_exposure.specs.Prelude.{AreWalked, Aside, Choices, ExposureRow, Fills, IsLeaf, IsState, IsStepTo, Pending, SidedRequirement, allows_found, are_at, can_be, is_at, is_decided, is_made, looks_at, still_asked, suits}
use Rattle.np_rules.specs.Prelude.{PodSide}

-- ---- a requirement of a key with one choice

none-behind : (a b more others : Bool) → (a && b) ≡ false → ((a && more) && (b && others)) ≡ false
none-behind true true more others none = absurd (true≢false none)
none-behind true false true others none = refl
none-behind true false false others none = refl
none-behind false b more others none = refl

none-before : (a b more others : Bool) → (more && others) ≡ false → ((a && more) && (b && others)) ≡ false
none-before false b more others none = refl
none-before true b false others none = refl
none-before true false true others none = refl
none-before true true true others none = none

module _ (asked : SidedRequirement) where
  -- one choice is not both allowed and refused
  one-choice : (choices : Choices) (found : List (Option (List ℕ))) → looks_at choices.side choices.key asked ≡ true → length found ≡ 1
      → (list_any (suits true asked choices) found && list_any (suits false asked choices) found) ≡ false
  one-choice choices [] looks one = absurd (omega arith)
  one-choice choices (x ∷ []) looks one = rw looks (by (allows_found asked x))
    where
      by : (b : Bool) → ((b || false) && (not b || false)) ≡ false
      by true = refl
      by false = refl
  one-choice choices (x ∷ y ∷ found) looks one = absurd (omega arith)

  decided-alone : (state : List Choices) → is_decided state ≡ true → is_at state asked ≡ true → (can_be true asked state && can_be false asked state) ≡ false
  decided-alone [] decided at = absurd (false≢true at)
  decided-alone (choices ∷ state) decided at =
      let parts = and_parts (is_made choices) (is_decided state) decided in
      by (looks_at choices.side choices.key asked) refl at (eqb-true (length choices.found) 1 parts.0) (decided-alone state parts.1)
    where
      by : (b : Bool) → looks_at choices.side choices.key asked ≡ b → (b || is_at state asked) ≡ true → length choices.found ≡ 1
          → (is_at state asked ≡ true → (can_be true asked state && can_be false asked state) ≡ false)
          → (can_be true asked (choices ∷ state) && can_be false asked (choices ∷ state)) ≡ false
      by true looks here one rest =
          none-behind (list_any (suits true asked choices) choices.found) (list_any (suits false asked choices) choices.found) (can_be true asked state) (can_be false asked state)
          (one-choice choices choices.found looks one)
      by false looks there one rest =
          none-before (list_any (suits true asked choices) choices.found) (list_any (suits false asked choices) choices.found) (can_be true asked state) (can_be false asked state) (rest there)

-- ---- the walk

-- the rows of a leaf are those of all requirements that are left
decided-walk : (side : PodSide) (left : List SidedRequirement) (state : List Choices) (rows : List ExposureRow) → IsState state → is_decided state ≡ true → are_at state left ≡ true →
    IsLeaf side state rows → AreWalked side left state rows
unfolding AreWalked
decided-walk side [] state rows is decided at leaf = leaf
decided-walk side (asked ∷ left) state rows is decided at leaf =
    let parts = and_parts (is_at state asked) (are_at state left) at in
    walked-alone side asked left state state rows (alone-step asked state is (can_be true asked state) (can_be false asked state) refl refl (decided-alone asked state decided parts.0))
    (decided-walk side left state rows is decided parts.1 leaf)

still-walked : (side : PodSide) (left : List SidedRequirement) (state : List Choices) (rows : List ExposureRow) → IsState state → are_at state left ≡ true →
    AreWalked side (still_asked left state) state rows → AreWalked side left state rows
unfolding AreWalked
still-walked side left state rows is at = by (is_decided state) refl
  where
    by : (b : Bool) → is_decided state ≡ b → AreWalked side (cond b [] left) state rows → AreWalked side left state rows
    by true decided leaf = decided-walk side left state rows is decided at leaf
    by false more walked = walked

-- the requirements that are still asked are enough
pub filled-still : (side : PodSide) (left more : List SidedRequirement) (state seen : List Choices) (pending : List Pending) (All : List ExposureRow → Type 0) → IsState state →
    are_at state left ≡ true → seen ≡ state → more ≡ still_asked left seen → IsFilled side pending left state All → IsFilled side pending more state All
filled-still side left more state seen pending All is at same still filled rows made walked fills =
    filled rows made
    (still-walked side left state rows is at
    (subst (λ (all : List SidedRequirement). AreWalked side all state rows) (still ∙ ap (still_asked left) same) walked)) fills

-- where none waits, the rows are made
pub filled-none : (side : PodSide) (left : List SidedRequirement) (state : List Choices) (pending : List Pending) → pending ≡ [] → IsFilled side pending left state (AreWalked side left state)
filled-none side left state pending none rows made walked fills =
    let same : made ≡ rows = subst (λ (all : List Pending). Fills all rows made) none fills in
    subst (λ (all : List ExposureRow). AreWalked side left state all) (sym same) walked

-- ---- the keys stay

pub still-at : (left more : List SidedRequirement) (state seen : List Choices) → seen ≡ state → more ≡ still_asked left seen → are_at state left ≡ true → are_at state more ≡ true
still-at left more state seen same still at = ap (are_at state) (still ∙ ap (still_asked left) same) ∙ by (is_decided state)
  where
    by : (b : Bool) → are_at state (cond b [] left) ≡ true
    by true = refl
    by false = at

pub still-short : (left more : List SidedRequirement) (seen : List Choices) → more ≡ still_asked left seen → length more ≤ length left
still-short left more seen still = by (is_decided seen) still
  where
    by : (b : Bool) → more ≡ cond b [] left → length more ≤ length left
    by true none = let e = ap length none in omega arith
    by false same = let e = ap length same in omega arith

-- what is left of the choices behind a requirement is at the same keys
pub step-at : (asked : SidedRequirement) (left rest : List SidedRequirement) (state next : List Choices) (aside : Option Aside) → left ≡ asked ∷ rest → IsStepTo asked state next aside →
    are_at state left ≡ true → are_at next rest ≡ true
step-at asked left rest state next aside is step at = by aside step
  where
    behind : are_at state rest ≡ true
    behind = (and_parts (is_at state asked) (are_at state rest) (ap (are_at state) (sym is) ∙ at)).1

    by : (one : Option Aside) → IsStepTo asked state next one → are_at next rest ≡ true
    by None only = ap (λ (s : List Choices). are_at s rest) only.3 ∙ all_at-narrowed only.0 asked state rest behind
    by (Some put) both = ap (λ (s : List Choices). are_at s rest) both.3 ∙ all_at-narrowed (not put.wanted) asked state rest behind

pub aside-at : (asked : SidedRequirement) (left rest : List SidedRequirement) (state next : List Choices) (aside : Option Aside) (put : Aside) → left ≡ asked ∷ rest → aside ≡ Some put →
    IsStepTo asked state next aside → are_at state left ≡ true → are_at put.case.state.items rest ≡ true
aside-at asked left rest state next aside put is some step at =
    let both = subst (IsStepTo asked state next) some step in
    let behind = (and_parts (is_at state asked) (are_at state rest) (ap (are_at state) (sym is) ∙ at)).1 in
    ap (λ (s : List Choices). are_at s rest) both.2 ∙ all_at-narrowed put.wanted asked state rest behind
