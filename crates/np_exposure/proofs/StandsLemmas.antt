-- What the choices say of what is assumed, and so that the rows of the walk are those of the requirements.
-- For BeginLemmas, DecidedLemmas and 4 more.
use Rattle.std.proofs.Common.{◌≡◌, ℕ, List, [], ◌∷◌, filter, Bool, true, false, not, cond, ◌&&◌, ◌||◌, Option, Some, None, refl, sym, ap, ◌∙◌, subst, inl, inr, ◌⊎◌}
use Rattle.std.specs.List.{AllByRecursion, list_all, list_any}
use Rattle.std.specs.Str.{bytes_eq}
use Rattle.std.specs.Cmp.Lexicographic.{bytes_decides}
use Rattle.std.proofs.lemmas.Bool.{and_parts, and_from, false≢true}
use Rattle.np_base.proofs.Each.{All-weaker}
use Rattle.np_conns.specs.Prelude.{Conns}
use Rattle.np_exposure.proofs.ExposureLemmas.{Agree, exposes-same}
use Rattle.np_exposure.proofs.ListLemmas.{All-at, IsAmong-filter, list_all-at, list_all-from, list_any-at}
use Rattle.np_exposure.proofs.SameLemmas.{same_side-equal}
use Rattle.np_exposure.specs.Prelude.{Absent, AreJoinedAt, AreRows, AreRowsAt, AreWalked, Choices, ExposureRow, HasExposure, IsAssumed, IsChosen, IsExposure, IsPossible, IsWitness, NoneOf, OneOf, Op, Present, Side, SidedRequirement, Stranger, allows_found, always, as_wanted, can_be, either, fits_assumed, is_at, is_hypothetical, labels_at, looks_at, meets, meets_all, mentions, narrowed, negated, never, same_side, suits}
use Rattle.np_labels.specs.Prelude.{op_allows, opposite_of, value_of}
use Rattle.np_rules.specs.Prelude.{IsAmong, PodSide}

-- ---- requirements and their negations

not-not : (b : Bool) → b ≡ not (not b)
not-not true = refl
not-not false = refl

allows-opposite : (op : Op) (values : List (List ℕ)) (found : Option (List ℕ)) → op_allows (opposite_of op) values found ≡ not (op_allows op values found)
allows-opposite OneOf values None = refl
allows-opposite OneOf values (Some value) = refl
allows-opposite NoneOf values None = refl
allows-opposite NoneOf values (Some value) = not-not _
allows-opposite Present values None = refl
allows-opposite Present values (Some value) = refl
allows-opposite Absent values None = refl
allows-opposite Absent values (Some value) = refl

-- a requirement as it is assumed: that it is met, or that it is not
abbrev pub answered : Bool → SidedRequirement → SidedRequirement
answered true asked = asked
answered false asked = negated asked

allows-answered : (wanted : Bool) (asked : SidedRequirement) (found : Option (List ℕ)) → allows_found (answered wanted asked) found ≡ as_wanted wanted (allows_found asked found)
allows-answered true asked found = refl
allows-answered false asked found = allows-opposite asked.requirement.op asked.requirement.values found

looks-answered : (wanted : Bool) (asked : SidedRequirement) (choices : Choices) → looks_at choices.side choices.key (answered wanted asked) ≡ looks_at choices.side choices.key asked
looks-answered true asked choices = refl
looks-answered false asked choices = refl

meets-answered : (wanted : Bool) (asked : SidedRequirement) (s : Stranger) → meets (answered wanted asked) s ≡ as_wanted wanted (meets asked s)
meets-answered true asked s = refl
meets-answered false asked s = allows-opposite asked.requirement.op asked.requirement.values (value_of (labels_at asked.side s) asked.requirement.key)

pub meets-negated : (asked : SidedRequirement) (s : Stranger) → meets (negated asked) s ≡ not (meets asked s)
meets-negated asked s = meets-answered false asked s

-- what a stranger has at the key of a requirement that looks there
pub meets-found : (asked : SidedRequirement) (choices : Choices) (s : Stranger) → looks_at choices.side choices.key asked ≡ true →
    meets asked s ≡ allows_found asked (value_of (labels_at choices.side s) choices.key)
meets-found asked choices s looks =
    let parts = and_parts (same_side asked.side choices.side) (bytes_eq asked.requirement.key choices.key) looks in
    ap (λ (side : Side). allows_found asked (value_of (labels_at side s) asked.requirement.key)) (same_side-equal asked.side choices.side parts.0)
    ∙ ap (λ (key : List ℕ). allows_found asked (value_of (labels_at choices.side s) key)) ((bytes_decides asked.requirement.key choices.key).0 parts.1)

-- ---- what the choices say

-- the requirements that look at the key allow one where they allow the other
abbrev pub Alike : List SidedRequirement → Choices → Option (List ℕ) → Option (List ℕ) → Type 0
Alike all choices one other = AllByRecursion (λ asked. looks_at choices.side choices.key asked ≡ true → allows_found asked one ≡ allows_found asked other) all

-- one of the choices is like what the stranger has
abbrev pub HasLike : List SidedRequirement → Stranger → Choices → Type 0
HasLike all s choices = (found : Option (List ℕ)) × IsAmong found choices.found × Alike all choices found (value_of (labels_at choices.side s) choices.key)

-- it is assumed that the requirement is met, or that it is not
abbrev pub IsDecided : List SidedRequirement → SidedRequirement → Type 0
IsDecided assumed asked = IsAmong asked assumed ⊎ IsAmong (negated asked) assumed

-- The choices are those of what is assumed: each hypothetical pod that meets it is like one choice at each key, and each
-- choice is allowed by it. Each requirement is left, or decided.
pub record Stands (all left assumed : List SidedRequirement) (state : List Choices) : Type 0 where
  pub complete : (s : Stranger) → IsAssumed assumed s → AllByRecursion (HasLike all s) state
  pub sound : list_all (λ choices. list_all (fits_assumed assumed choices) choices.found) state ≡ true
  pub covers : list_all (is_at state) all ≡ true
  pub known : list_all (is_at state) assumed ≡ true
  pub within : AllByRecursion (λ asked. IsAmong asked all) left
  pub decided : AllByRecursion (λ asked. IsAmong asked left ⊎ IsDecided assumed asked) all

-- ---- one requirement more is assumed

module _ (all : List SidedRequirement) (wanted : Bool) (asked : SidedRequirement) (among : IsAmong asked all) where
  -- a choice like what a stranger has that does as is wanted is kept
  suits-like : (s : Stranger) (choices : Choices) (found : Option (List ℕ)) → meets (answered wanted asked) s ≡ true → Alike all choices found (value_of (labels_at choices.side s) choices.key) →
      suits wanted asked choices found ≡ true
  suits-like s choices found does alike = by (looks_at choices.side choices.key asked) refl
    where
      by : (b : Bool) → looks_at choices.side choices.key asked ≡ b → (not b || as_wanted wanted (allows_found asked found)) ≡ true
      by false elsewhere = refl
      by true looks =
          let same : allows_found asked found ≡ meets asked s = All-at _ asked all among alike looks ∙ sym (meets-found asked choices s looks) in
          ap (as_wanted wanted) same ∙ sym (meets-answered wanted asked s) ∙ does

  likes-narrowed : (s : Stranger) (state : List Choices) → meets (answered wanted asked) s ≡ true → AllByRecursion (HasLike all s) state → AllByRecursion (HasLike all s) (narrowed wanted asked state)
  likes-narrowed s [] does likes = tt
  likes-narrowed s (choices ∷ state) does likes =
      let like = likes.0 in (
        (like.0, IsAmong-filter (suits wanted asked choices) like.0 choices.found like.1 (suits-like s choices like.0 does like.2), like.2),
        likes-narrowed s state does likes.1,
      )

  -- where a stranger does as is wanted, it can be
  can-like : (s : Stranger) (state : List Choices) → meets (answered wanted asked) s ≡ true → AllByRecursion (HasLike all s) state → can_be wanted asked state ≡ true
  can-like s [] does likes = refl
  can-like s (choices ∷ state) does likes =
      let like = likes.0 in
      and_from (list_any (suits wanted asked choices) choices.found) (can_be wanted asked state)
      (list_any-at (suits wanted asked choices) like.0 choices.found like.1 (suits-like s choices like.0 does like.2))
      (can-like s state does likes.1)

module _ (wanted : Bool) (asked : SidedRequirement) where
  pub fits-more : (assumed : List SidedRequirement) (choices : Choices) (found : Option (List ℕ)) →
      fits_assumed (answered wanted asked ∷ assumed) choices found ≡ (suits wanted asked choices found && fits_assumed assumed choices found)
  fits-more assumed choices found =
      ap (λ b. (not b || allows_found (answered wanted asked) found) && fits_assumed assumed choices found) (looks-answered wanted asked choices)
      ∙ ap (λ b. (not (looks_at choices.side choices.key asked) || b) && fits_assumed assumed choices found) (allows-answered wanted asked found)

  kept-fit : (assumed : List SidedRequirement) (choices : Choices) (found : List (Option (List ℕ))) → list_all (fits_assumed assumed choices) found ≡ true →
      list_all (fits_assumed (answered wanted asked ∷ assumed) choices) (filter (suits wanted asked choices) found) ≡ true
  kept-fit assumed choices [] fit = refl
  kept-fit assumed choices (one ∷ found) fit =
      let parts = and_parts (fits_assumed assumed choices one) (list_all (fits_assumed assumed choices) found) fit in
      by (suits wanted asked choices one) refl parts.0 (kept-fit assumed choices found parts.1)
    where
      by : (b : Bool) → suits wanted asked choices one ≡ b → fits_assumed assumed choices one ≡ true →
          list_all (fits_assumed (answered wanted asked ∷ assumed) choices) (filter (suits wanted asked choices) found) ≡ true
          → list_all (fits_assumed (answered wanted asked ∷ assumed) choices) (cond b (one ∷ filter (suits wanted asked choices) found) (filter (suits wanted asked choices) found)) ≡ true
      by true does here rest = and_from (fits_assumed (answered wanted asked ∷ assumed) choices one) _ (fits-more assumed choices one ∙ and_from _ _ does here) rest
      by false does here rest = rest

  sound-narrowed : (assumed : List SidedRequirement) (state : List Choices) → list_all (λ choices. list_all (fits_assumed assumed choices) choices.found) state ≡ true →
      list_all (λ choices. list_all (fits_assumed (answered wanted asked ∷ assumed) choices) choices.found) (narrowed wanted asked state) ≡ true
  sound-narrowed assumed [] sound = refl
  sound-narrowed assumed (choices ∷ state) sound =
      let parts = and_parts (list_all (fits_assumed assumed choices) choices.found) (list_all (λ one. list_all (fits_assumed assumed one) one.found) state) sound in
      and_from _ _ (kept-fit assumed choices choices.found parts.0) (sound-narrowed assumed state parts.1)

  -- the keys stay
  is_at-narrowed : (state : List Choices) (other : SidedRequirement) → is_at (narrowed wanted asked state) other ≡ is_at state other
  is_at-narrowed [] other = refl
  is_at-narrowed (choices ∷ state) other = ap (λ b. looks_at choices.side choices.key other || b) (is_at-narrowed state other)

  pub all_at-narrowed : (state : List Choices) (others : List SidedRequirement) → list_all (is_at state) others ≡ true → list_all (is_at (narrowed wanted asked state)) others ≡ true
  all_at-narrowed state [] at = refl
  all_at-narrowed state (other ∷ others) at =
      let parts = and_parts (is_at state other) (list_all (is_at state) others) at in
      and_from _ _ (is_at-narrowed state other ∙ parts.0) (all_at-narrowed state others parts.1)

  is_at-answered : (state : List Choices) → is_at state (answered wanted asked) ≡ is_at state asked
  is_at-answered [] = refl
  is_at-answered (choices ∷ state) = ap (λ b. b || is_at state (answered wanted asked)) (looks-answered wanted asked choices) ∙ ap (λ b. looks_at choices.side choices.key asked || b)
      (is_at-answered state)

  decided-more : (left assumed : List SidedRequirement) (other : SidedRequirement) → IsAmong other (asked ∷ left) ⊎ IsDecided assumed other →
      IsAmong other left ⊎ IsDecided (answered wanted asked ∷ assumed) other
  decided-more left assumed other (inl (inl same)) = inr (by wanted)
    where
      by : (w : Bool) → IsDecided (answered w asked ∷ assumed) other
      by true = inl (inl same)
      by false = inr (inl (ap negated same))
  decided-more left assumed other (inl (inr later)) = inl later
  decided-more left assumed other (inr (inl met)) = inr (inl (inr met))
  decided-more left assumed other (inr (inr missed)) = inr (inr (inr missed))

assumed-parts : (asked : SidedRequirement) (assumed : List SidedRequirement) (s : Stranger) → IsAssumed (asked ∷ assumed) s → IsAssumed assumed s × (meets asked s ≡ true)
assumed-parts asked assumed s is =
    let parts = and_parts (is_hypothetical s) (meets_all (asked ∷ assumed) s) is in
    let rest = and_parts (meets asked s) (meets_all assumed s) parts.1 in
    (and_from (is_hypothetical s) (meets_all assumed s) parts.0 rest.1, rest.0)

pub possible-weaker : (asked : SidedRequirement) (assumed : List SidedRequirement) → IsPossible (asked ∷ assumed) → IsPossible assumed
possible-weaker asked assumed possible = (possible.0, (assumed-parts asked assumed possible.0 possible.1).0)

-- the choices that are left are those of what is assumed then
pub Stands-more : (all left assumed : List SidedRequirement) (state : List Choices) (wanted : Bool) (asked : SidedRequirement) → Stands all (asked ∷ left) assumed state →
    Stands all left (answered wanted asked ∷ assumed) (narrowed wanted asked state)
Stands-more all left assumed state wanted asked stands = record {
  complete = λ s is.
      let parts = assumed-parts (answered wanted asked) assumed s is in
      likes-narrowed all wanted asked stands.within.0 s state parts.1 (stands.complete s parts.0);
  sound = sound-narrowed wanted asked assumed state stands.sound;
  covers = all_at-narrowed wanted asked state all stands.covers;
  known =
      and_from _ _ (is_at-narrowed wanted asked state (answered wanted asked) ∙ is_at-answered wanted asked state ∙ list_all-at (is_at state) asked all stands.within.0 stands.covers)
      (all_at-narrowed wanted asked state assumed stands.known);
  within = stands.within.1;
  decided = All-weaker _ _ (decided-more wanted asked left assumed) all stands.decided;
}

-- what cannot be is not possible
pub cannot-be : (all left assumed : List SidedRequirement) (state : List Choices) (wanted : Bool) (asked : SidedRequirement) → Stands all (asked ∷ left) assumed state →
    can_be wanted asked state ≡ false → ¬ IsPossible (answered wanted asked ∷ assumed)
cannot-be all left assumed state wanted asked stands cannot possible =
    let parts = assumed-parts (answered wanted asked) assumed possible.0 possible.1 in
    false≢true (sym cannot ∙ can-like all wanted asked stands.within.0 possible.0 state parts.1 (stands.complete possible.0 parts.0))

-- ---- a leaf

-- a hypothetical pod with labels among the choices meets what is assumed
chosen-meets : (assumed : List SidedRequirement) (s : Stranger) (asked : SidedRequirement) (state : List Choices) → IsAmong asked assumed → is_at state asked ≡ true →
    list_all (λ choices. list_all (fits_assumed assumed choices) choices.found) state ≡ true → AllByRecursion (IsChosen s) state → meets asked s ≡ true
chosen-meets assumed s asked [] among at sound chosen = absurd (false≢true at)
chosen-meets assumed s asked (choices ∷ state) among at sound chosen =
    let parts = and_parts (list_all (fits_assumed assumed choices) choices.found) (list_all (λ one. list_all (fits_assumed assumed one) one.found) state) sound in
    by (looks_at choices.side choices.key asked) refl at parts.0 chosen.0 (λ later. chosen-meets assumed s asked state among later parts.1 chosen.1)
  where
    by : (b : Bool) → looks_at choices.side choices.key asked ≡ b → (b || is_at state asked) ≡ true → list_all (fits_assumed assumed choices) choices.found ≡ true → IsChosen s choices →
        (is_at state asked ≡ true → meets asked s ≡ true) → meets asked s ≡ true
    by true looks here fit one rest =
        let found = value_of (labels_at choices.side s) choices.key in
        let all_fit : fits_assumed assumed choices found ≡ true = list_all-at (fits_assumed assumed choices) found choices.found one fit in
        let this : (not (looks_at choices.side choices.key asked) || allows_found asked found) ≡ true = list_all-at
        (λ other. not (looks_at choices.side choices.key other) || allows_found other found) asked assumed among all_fit in
        meets-found asked choices s looks ∙ subst (λ b. (not b || allows_found asked found) ≡ true) looks this
    by false looks here fit one rest = rest here

pub witness-assumed : (all left assumed : List SidedRequirement) (state : List Choices) (s : Stranger) → Stands all left assumed state → IsWitness state s → IsAssumed assumed s
witness-assumed all left assumed state s stands witness =
    and_from (is_hypothetical s) (meets_all assumed s) witness.named
    (list_all-from (λ asked. meets asked s) assumed (λ asked among. chosen-meets assumed s asked state among (list_all-at (is_at state) asked assumed among stands.known) stands.sound witness.chosen))

-- what is decided is the same for all that meet what is assumed
decided-same : (assumed : List SidedRequirement) (s t : Stranger) → IsAssumed assumed s → IsAssumed assumed t → (asked : SidedRequirement) → IsDecided assumed asked → Agree s t asked
decided-same assumed s t first second asked (inl among) =
    let one = list_all-at (λ other. meets other s) asked assumed among (and_parts (is_hypothetical s) (meets_all assumed s) first).1 in
    let two = list_all-at (λ other. meets other t) asked assumed among (and_parts (is_hypothetical t) (meets_all assumed t) second).1 in
    one ∙ sym two
decided-same assumed s t first second asked (inr among) =
    let one = list_all-at (λ other. meets other s) (negated asked) assumed among (and_parts (is_hypothetical s) (meets_all assumed s) first).1 in
    let two = list_all-at (λ other. meets other t) (negated asked) assumed among (and_parts (is_hypothetical t) (meets_all assumed t) second).1 in
    not-same (meets asked s) (meets asked t) (sym (meets-answered false asked s) ∙ one) (sym (meets-answered false asked t) ∙ two)
  where
    not-same : (a b : Bool) → not a ≡ true → not b ≡ true → a ≡ b
    not-same true b no_a no_b = absurd (false≢true no_a)
    not-same false true no_a no_b = absurd (false≢true no_b)
    not-same false false no_a no_b = refl

leaf-agree : (all assumed : List SidedRequirement) (s t : Stranger) → IsAssumed assumed s → IsAssumed assumed t → (asked : SidedRequirement) → IsAmong asked [] ⊎ IsDecided assumed asked →
    Agree s t asked
leaf-agree all assumed s t first second asked (inl none) = absurd none
leaf-agree all assumed s t first second asked (inr decided) = decided-same assumed s t first second asked decided

module _ (side : PodSide) where
  leaf-exposure : (assumed : List SidedRequirement) (state : List Choices) (w : Stranger) (conns : Conns) → Stands (mentions side) [] assumed state → IsAssumed assumed w → IsExposure side w conns →
      HasExposure side assumed conns
  leaf-exposure assumed state w conns stands is exposure s assumed_s =
      let hyp_s = (and_parts (is_hypothetical s) (meets_all assumed s) assumed_s).0 in
      let hyp_w = (and_parts (is_hypothetical w) (meets_all assumed w) is).0 in
      let agree = All-weaker _ (Agree w s) (leaf-agree (mentions side) assumed w s is assumed_s) (mentions side) stands.decided in
      record {
        members = λ spot within. exposure.members spot within ∙ exposes-same w s hyp_w hyp_s side spot agree;
        well = exposure.well;
      }

  -- ---- the rows

  pub walked-rows : (left assumed : List SidedRequirement) (state : List Choices) (rows : List ExposureRow) → Stands (mentions side) left assumed state → AreWalked side left state rows →
      AreRows side left assumed rows × IsPossible assumed
  unfolding AreWalked AreRows
  walked-rows [] assumed state rows stands walked =
      let is = witness-assumed (mentions side) [] assumed state walked.stranger stands walked.witness in
      ((walked.conns, leaf-exposure assumed state walked.stranger walked.conns stands is walked.exposure, walked.row), (walked.stranger, is))
  walked-rows (asked ∷ left) assumed state rows stands walked =
      by (can_be true asked state) refl (can_be false asked state) refl walked
      (λ more. walked-rows left (asked ∷ assumed) (narrowed true asked state) more (Stands-more (mentions side) left assumed state true asked stands))
      (λ more. walked-rows left (negated asked ∷ assumed) (narrowed false asked state) more (Stands-more (mentions side) left assumed state false asked stands))
    where
      by : (can_meet : Bool) → can_be true asked state ≡ can_meet → (can_miss : Bool) → can_be false asked state ≡ can_miss
          → AreJoinedAt asked can_meet can_miss (AreWalked side left (narrowed true asked state)) (AreWalked side left (narrowed false asked state)) rows
          → ((more : List ExposureRow) → AreWalked side left (narrowed true asked state) more → AreRows side left (asked ∷ assumed) more × IsPossible (asked ∷ assumed))
          → ((more : List ExposureRow) → AreWalked side left (narrowed false asked state) more → AreRows side left (negated asked ∷ assumed) more × IsPossible (negated asked ∷ assumed))
          → AreRowsAt asked (IsPossible (asked ∷ assumed)) (IsPossible (negated asked ∷ assumed)) (AreRows side left (asked ∷ assumed)) (AreRows side left (negated asked ∷ assumed)) rows
          × IsPossible assumed
      by true meet true miss joined one other =
          let met = one joined.0 joined.2 in
          let unmet = other joined.1 joined.3 in
          (either met.1 unmet.1 joined.0 joined.1 met.0 unmet.0 joined.4, possible-weaker asked assumed met.1)
      by true meet false miss joined one other =
          let met = one rows joined in
          (always met.1 (cannot-be (mentions side) left assumed state false asked stands miss) met.0, possible-weaker asked assumed met.1)
      by false meet can_miss miss joined one other =
          let unmet = other rows joined in
          (never (cannot-be (mentions side) left assumed state true asked stands meet) unmet.1 unmet.0, possible-weaker (negated asked) assumed unmet.1)
