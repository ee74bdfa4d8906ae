-- The choices that are left by what is assumed are those of the walk, and so the function gives the rows.
-- For `exposure`, `rows_can_be_told` and crates above.
use Rattle.std.proofs.Common.{◌≡◌, ℕ, List, [], ◌∷◌, map, filter, Bool, true, false, cond, ◌&&◌, ◌||◌, Option, refl, sym, ap, ◌∙◌, subst}
use Rattle.std.specs.List.{list_any}
use Rattle.np_conns.specs.Prelude.{conns_of}
use Rattle.np_conns.proofs.ConnLemmas.{conns_of-has, conns_of-well}
use Rattle.np_exposure.proofs.BeginLemmas.{Stands-first, walked-rows_of}
use Rattle.np_exposure.proofs.FirstLemmas.{IsState-first}
use Rattle.np_exposure.proofs.FirstStrangerLemmas.{IsWitness-first_stranger}
use Rattle.np_exposure.proofs.RightLemmas.{rows-one}
use Rattle.np_exposure.proofs.RowLemmas.{IsJoined-joined}
use Rattle.np_exposure.proofs.StandsLemmas.{answered, fits-more, walked-rows}
use Rattle.np_exposure.proofs.StateLemmas.{IsState-narrowed, only-wanted}
use Rattle.np_exposure.specs.Prelude.{AreJoinedAt, AreRowsOf, AreWalked, Choices, ExposureRow, IsState, SidedRequirement, can_be, can_be_assumed, choices_at_first, choices_left, each_once, exposes, first_stranger, fits_assumed, is_open, left_at, mentions, narrowed, narrowed_at, negated, requirements, rows_at, rows_left, rows_of, suits}
use Rattle.np_rules.specs.Prelude.{PodSide}

-- ---- where nothing is assumed, all choices are left

filter-true : {X : Type 0} (xs : List X) → filter (λ x. true) xs ≡ xs
filter-true [] = refl
filter-true {X} (x ∷ xs) = ap (λ (rest : List X). x ∷ rest) (filter-true xs)

pub all-left : (state : List Choices) → map (left_at []) state ≡ state
all-left [] = refl
all-left (choices ∷ state) =
    ap (λ (c : Choices). c ∷ map (left_at []) state) (ap (λ (found : List (Option (List ℕ))). record choices { found = found }) (filter-true choices.found))
    ∙ ap (λ (rest : List Choices). choices ∷ rest) (all-left state)

-- ---- one requirement more leaves those that suit

module _ (wanted : Bool) (asked : SidedRequirement) (assumed : List SidedRequirement) where
  found-left : (choices : Choices) (found : List (Option (List ℕ))) →
      filter (fits_assumed (answered wanted asked ∷ assumed) choices) found ≡ filter (suits wanted asked choices) (filter (fits_assumed assumed choices) found)
  found-left choices [] = refl
  found-left choices (one ∷ found) =
      ap (λ b. cond b (one ∷ filter (fits_assumed (answered wanted asked ∷ assumed) choices) found) (filter (fits_assumed (answered wanted asked ∷ assumed) choices) found))
      (fits-more wanted asked assumed choices one)
      ∙ by (fits_assumed assumed choices one) (suits wanted asked choices one) refl (found-left choices found)
    where
      by : (fit suit : Bool) → suits wanted asked choices one ≡ suit →
          filter (fits_assumed (answered wanted asked ∷ assumed) choices) found ≡ filter (suits wanted asked choices) (filter (fits_assumed assumed choices) found)
          → cond (suit && fit) (one ∷ filter (fits_assumed (answered wanted asked ∷ assumed) choices) found) (filter (fits_assumed (answered wanted asked ∷ assumed) choices) found) ≡ filter
          (suits wanted asked choices) (cond fit (one ∷ filter (fits_assumed assumed choices) found) (filter (fits_assumed assumed choices) found))
      by true true does rest = rw does (ap (λ (more : List (Option (List ℕ))). one ∷ more) rest)
      by true false misses rest = rw misses rest
      by false true does rest = rest
      by false false misses rest = rest

  left-more : (state : List Choices) → map (left_at (answered wanted asked ∷ assumed)) state ≡ narrowed wanted asked (map (left_at assumed) state)
  left-more [] = refl
  left-more (choices ∷ state) =
      ap (λ (c : Choices). c ∷ map (left_at (answered wanted asked ∷ assumed)) state) (ap (λ (found : List (Option (List ℕ))). record choices { found = found }) (found-left choices choices.found))
      ∙ ap (λ (rest : List Choices). narrowed_at wanted asked (left_at assumed choices) ∷ rest) (left-more state)

-- a choice is left where some suits
some-left : {X : Type 0} (test : X → Bool) (xs : List X) → list_any (λ x. true) (filter test xs) ≡ list_any test xs
some-left test [] = refl
some-left {X} test (x ∷ xs) = by (test x) (some-left test xs)
  where
    by : (b : Bool) → list_any (λ y. true) (filter test xs) ≡ list_any test xs → list_any (λ y. true) (cond b (x ∷ filter test xs) (filter test xs)) ≡ (b || list_any test xs)
    by true rest = refl
    by false rest = rest

open-narrowed : (wanted : Bool) (asked : SidedRequirement) (state : List Choices) → is_open (narrowed wanted asked state) ≡ can_be wanted asked state
open-narrowed wanted asked [] = refl
open-narrowed wanted asked (choices ∷ state) =
    ap (λ b. b && is_open (narrowed wanted asked state)) (some-left (suits wanted asked choices) choices.found)
    ∙ ap (λ b. list_any (suits wanted asked choices) choices.found && b) (open-narrowed wanted asked state)

module _ (all assumed : List SidedRequirement) (asked : SidedRequirement) where
  pub left-narrowed : (wanted : Bool) → choices_left all (answered wanted asked ∷ assumed) ≡ narrowed wanted asked (choices_left all assumed)
  left-narrowed wanted = left-more wanted asked assumed (choices_at_first all)

  pub assumed-can_be : (wanted : Bool) → can_be_assumed all (answered wanted asked ∷ assumed) ≡ can_be wanted asked (choices_left all assumed)
  assumed-can_be wanted = ap is_open (left-narrowed wanted) ∙ open-narrowed wanted asked (choices_left all assumed)

-- ---- the rows

module _ (side : PodSide) where
  -- the rows where a requirement is met, or those where it is not
  abbrev IsCase : List SidedRequirement → List SidedRequirement → SidedRequirement → Bool → Type 0
  IsCase more assumed asked wanted = AreWalked side more (narrowed wanted asked (choices_left (mentions side) assumed)) (rows_left side more (answered wanted asked ∷ assumed))

  abbrev left : List SidedRequirement → List Choices
  left assumed = choices_left (mentions side) assumed

  -- the walk over the choices that are left makes the rows of the function
  walked-left : (more assumed : List SidedRequirement) → IsState (left assumed) → AreWalked side more (left assumed) (rows_left side more assumed)
  unfolding AreWalked rows_left
  walked-left [] assumed is =
      let s = first_stranger (left assumed) in
      record {
        stranger = s;
        witness = IsWitness-first_stranger (left assumed) is;
        conns = conns_of (exposes side s);
        exposure = record { members = conns_of-has (exposes side s); well = conns_of-well (exposes side s) };
        row = refl;
      }
  walked-left (asked ∷ more) assumed is =
      by (can_be true asked (left assumed)) refl (can_be false asked (left assumed)) refl
      (can_be_assumed (mentions side) (asked ∷ assumed)) (assumed-can_be (mentions side) assumed asked true)
      (can_be_assumed (mentions side) (negated asked ∷ assumed)) (assumed-can_be (mentions side) assumed asked false)
      (λ one. here true (walked-left more (asked ∷ assumed)) one) (λ other. here false (walked-left more (negated asked ∷ assumed)) other)
    where
      here : (wanted : Bool) →
          (IsState (left (answered wanted asked ∷ assumed)) → AreWalked side more (left (answered wanted asked ∷ assumed)) (rows_left side more (answered wanted asked ∷ assumed))) →
          can_be wanted asked (left assumed) ≡ true → IsCase more assumed asked wanted
      here wanted walked can =
          let same = left-narrowed (mentions side) assumed asked wanted in
          subst (λ (state : List Choices). AreWalked side more state (rows_left side more (answered wanted asked ∷ assumed))) same
          (walked (subst IsState (sym same) (IsState-narrowed wanted asked (left assumed) is can)))

      by : (can_meet : Bool) → can_be true asked (left assumed) ≡ can_meet → (can_miss : Bool) → can_be false asked (left assumed) ≡ can_miss
          → (told_meet : Bool) → told_meet ≡ can_be true asked (left assumed) → (told_miss : Bool) → told_miss ≡ can_be false asked (left assumed)
          → (can_be true asked (left assumed) ≡ true → IsCase more assumed asked true) → (can_be false asked (left assumed) ≡ true → IsCase more assumed asked false)
          → AreJoinedAt asked can_meet can_miss (AreWalked side more (narrowed true asked (left assumed))) (AreWalked side more (narrowed false asked (left assumed)))
          (rows_at asked told_meet told_miss (rows_left side more (asked ∷ assumed)) (rows_left side more (negated asked ∷ assumed)))
      by true meet true miss told_meet first told_miss second one other =
          rw (first ∙ meet, second ∙ miss) (
            rows_left side more (asked ∷ assumed),
            rows_left side more (negated asked ∷ assumed),
            one meet,
            other miss,
            IsJoined-joined asked (rows_left side more (asked ∷ assumed))
                (rows_left side more (negated asked ∷ assumed)),
          )
      by true meet false miss told_meet first told_miss second one other = rw (first ∙ meet, second ∙ miss) (one meet)
      by false meet can_miss miss told_meet first told_miss second one other = rw (first ∙ meet) (other (only-wanted false asked (left assumed) is.«open» is.apart meet).0)

  -- the function gives the rows of the relation
  pub rows_of-are : AreRowsOf side (rows_of side)
  rows_of-are =
      let first : left [] ≡ choices_at_first (mentions side) = all-left (choices_at_first (mentions side)) in
      let walked = walked-left (requirements side) [] (subst IsState (sym first) (IsState-first (mentions side))) in
      (walked-rows side (requirements side) [] (choices_at_first (mentions side)) (rows_of side) (Stands-first (mentions side))
      (subst (λ (state : List Choices). AreWalked side (requirements side) state (rows_of side)) first walked)).0

-- the rows that are walked are those of the function
pub walked-list : (side walked : PodSide) (all : List SidedRequirement) (rows : List ExposureRow) → walked ≡ side → all ≡ mentions side → AreWalked walked (each_once all) (choices_at_first all) rows →
    rows ≡ rows_of side
walked-list side walked all rows same is are = rows-one side rows (rows_of side) (walked-rows_of side walked all rows same is are) (rows_of-are side)
