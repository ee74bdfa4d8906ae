-- Rows say right, once and each for some. For `each_row_is_first_for_some`, `first_row_tells` and 2 more.
use Rattle.std.proofs.Common.{◌≡◌, List, [], ◌∷◌, ◌++◌, map, Bool, true, false, not, cond, ◌&&◌, ◌||◌, Option, Some, find, refl, sym, ap, ◌∙◌, subst, codes}
use Rattle.std.specs.List.{list_any}
use Rattle.std.proofs.lemmas.Bool.{and_parts, and_from, false≢true, true≢false, not-true, not_from_false}
use Rattle.np_conns.specs.Prelude.{Conns, equal_by_spots, has_spot, has_spot-is_spot, is_spot}
use Rattle.np_exposure.specs.Prelude.{AreRows, AreRowsAt, AreRowsOf, ExposureRow, FirstRowTells, IsAssumed, IsEachFirst, IsExposure, IsJoined, IsPossible, PortSpot, SidedRequirement, Stranger, always, apart, either, equal, is_hypothetical, meets, meets_all, negated, never, requirements, with_first}
use Rattle.np_exposure.proofs.StandsLemmas.{meets-negated}
use Rattle.np_rules.specs.Prelude.{PodSide}

-- ---- what is assumed

assumed-met : (asked : SidedRequirement) (assumed : List SidedRequirement) (s : Stranger) → IsAssumed assumed s → meets asked s ≡ true → IsAssumed (asked ∷ assumed) s
assumed-met asked assumed s is met =
    let parts = and_parts (is_hypothetical s) (meets_all assumed s) is in
    and_from (is_hypothetical s) (meets_all (asked ∷ assumed) s) parts.0 (and_from (meets asked s) (meets_all assumed s) met parts.1)

assumed-missed : (asked : SidedRequirement) (assumed : List SidedRequirement) (s : Stranger) → IsAssumed assumed s → meets asked s ≡ false → IsAssumed (negated asked ∷ assumed) s
assumed-missed asked assumed s is missed = assumed-met (negated asked) assumed s is (meets-negated asked s ∙ ap not missed)

-- ---- the first row that a stranger meets

-- whether a stranger meets a row
abbrev meets_row : ExposureRow → Stranger → Bool
meets_row row s = meets_all row.requirements s

abbrev first_met : List ExposureRow → Stranger → Option ExposureRow
first_met rows s = find (λ row. meets_row row s) rows

first-met : (asked : SidedRequirement) (s : Stranger) (met unmet : List ExposureRow) (row : ExposureRow) → meets asked s ≡ true → first_met met s ≡ Some row →
    first_met (map (with_first asked) met ++ unmet) s ≡ Some (with_first asked row)
first-met asked s [] unmet row does first = absurd (cc)
first-met asked s (one ∷ met) unmet row does first = rw does (by (meets_row one s) first (first-met asked s met unmet row does))
  where
    by : (b : Bool) → cond b (Some one) (first_met met s) ≡ Some row → (first_met met s ≡ Some row → first_met (map (with_first asked) met ++ unmet) s ≡ Some (with_first asked row))
        → cond b (Some (with_first asked one)) (first_met (map (with_first asked) met ++ unmet) s) ≡ Some (with_first asked row)
    by true here rest = let same : one ≡ row = cc in ap (λ (r : ExposureRow). Some (with_first asked r)) same
    by false here rest = rest here

first-missed : (asked : SidedRequirement) (s : Stranger) (met unmet : List ExposureRow) → meets asked s ≡ false → first_met (map (with_first asked) met ++ unmet) s ≡ first_met unmet s
first-missed asked s [] unmet misses = refl
first-missed asked s (one ∷ met) unmet misses = rw misses (first-missed asked s met unmet misses)

module _ (side : PodSide) (s : Stranger) where
  tells-same : (rows others : List ExposureRow) → rows ≡ others → FirstRowTells side others s → FirstRowTells side rows s
  tells-same rows others same = subst (λ (all : List ExposureRow). FirstRowTells side all s) (sym same)

  joined-met : (asked : SidedRequirement) (met unmet rows : List ExposureRow) → meets asked s ≡ true → IsJoined asked met unmet rows → FirstRowTells side met s → FirstRowTells side rows s
  joined-met asked met unmet rows does (equal same is) tells = tells-same rows met is tells
  joined-met asked met unmet rows does (apart differ is) tells =
      tells-same rows (map (with_first asked) met ++ unmet) is (record { row = with_first asked tells.row; first = first-met asked s met unmet tells.row does tells.first; exposure = tells.exposure })

  joined-missed : (asked : SidedRequirement) (met unmet rows : List ExposureRow) → meets asked s ≡ false → IsJoined asked met unmet rows → FirstRowTells side unmet s → FirstRowTells side rows s
  joined-missed asked met unmet rows misses (equal same is) tells = tells-same rows unmet (is ∙ same) tells
  joined-missed asked met unmet rows misses (apart differ is) tells =
      tells-same rows (map (with_first asked) met ++ unmet) is (record { row = tells.row; first = first-missed asked s met unmet misses ∙ tells.first; exposure = tells.exposure })

  first-row : (left assumed : List SidedRequirement) (rows : List ExposureRow) → AreRows side left assumed rows → IsAssumed assumed s → FirstRowTells side rows s
  unfolding AreRows
  first-row [] assumed rows are is = tells-same rows _ are.2 (record { row = record { requirements = []; conns = are.0 }; first = refl; exposure = are.1 s is })
  first-row (asked ∷ left) assumed rows are is = by are (meets asked s) refl (λ more. first-row left (asked ∷ assumed) more) (λ more. first-row left (negated asked ∷ assumed) more)
    where
      by : AreRowsAt asked (IsPossible (asked ∷ assumed)) (IsPossible (negated asked ∷ assumed)) (AreRows side left (asked ∷ assumed)) (AreRows side left (negated asked ∷ assumed)) rows
          → (b : Bool) → meets asked s ≡ b
          → ((more : List ExposureRow) → AreRows side left (asked ∷ assumed) more → IsAssumed (asked ∷ assumed) s → FirstRowTells side more s)
          → ((more : List ExposureRow) → AreRows side left (negated asked ∷ assumed) more → IsAssumed (negated asked ∷ assumed) s → FirstRowTells side more s)
          → FirstRowTells side rows s
      by (always can cannot met) true does one other = one rows met (assumed-met asked assumed s is does)
      by (always can cannot met) false misses one other = absurd (cannot (s, assumed-missed asked assumed s is misses))
      by (never cannot can unmet) true does one other = absurd (cannot (s, assumed-met asked assumed s is does))
      by (never cannot can unmet) false misses one other = other rows unmet (assumed-missed asked assumed s is misses)
      by (either can can' met unmet first second joined) true does one other = joined-met asked met unmet rows does joined (one met first (assumed-met asked assumed s is does))
      by (either can can' met unmet first second joined) false misses one other = joined-missed asked met unmet rows misses joined (other unmet second (assumed-missed asked assumed s is misses))

pub first_row-tells : (side : PodSide) (rows : List ExposureRow) (s : Stranger) → AreRowsOf side rows → is_hypothetical s ≡ true → FirstRowTells side rows s
first_row-tells side rows s are named = first-row side s (requirements side) [] rows are (and_from (is_hypothetical s) true named refl)

-- ---- each row is the first for some

EachFirst-weaker : (a b : Stranger → Bool) → ((s : Stranger) → a s ≡ true → b s ≡ true) → (rows : List ExposureRow) → IsEachFirst a rows → IsEachFirst b rows
EachFirst-weaker a b weaker [] each = tt
EachFirst-weaker a b weaker (row ∷ rows) each =
    let s = each.0.0 in
    let parts = and_parts (a s) (meets_row row s) each.0.1 in (
      (s, and_from (b s) (meets_row row s) (weaker s parts.0) parts.1),
      EachFirst-weaker (λ t. a t && not (meets_row row t)) (λ t. b t && not (meets_row row t))
          (λ t both. let p = and_parts (a t) (not (meets_row row t)) both in and_from (b t) (not (meets_row row t)) (weaker t p.0) p.1) rows each.1,
    )

neither : (x y z : Bool) → (x && not (y || z)) ≡ true → ((x && not y) && not z) ≡ true
neither true true z both = both
neither true false z both = both
neither false y z both = both

EachFirst-append : (a : Stranger → Bool) (xs ys : List ExposureRow) → IsEachFirst a xs → IsEachFirst (λ s. a s && not (list_any (λ row. meets_row row s) xs)) ys → IsEachFirst a (xs ++ ys)
EachFirst-append a [] ys front back = EachFirst-weaker _ a (λ s both. (and_parts (a s) true both).0) ys back
EachFirst-append a (x ∷ xs) ys front back = (
  front.0,
  EachFirst-append (λ s. a s && not (meets_row x s)) xs ys front.1
      (EachFirst-weaker _ _ (λ s both. neither (a s) (meets_row x s) (list_any (λ row. meets_row row s) xs) both) ys back),
)

kept : (x r m : Bool) → ((x && r) && not m) ≡ true → ((x && not (r && m)) && r) ≡ true
kept true true m both = and_from (not m) true both refl
kept true false m both = absurd (false≢true both)
kept false r m both = absurd (false≢true both)

EachFirst-with_first : (asked : SidedRequirement) (a : Stranger → Bool) (rows : List ExposureRow) → IsEachFirst (λ s. a s && meets asked s) rows → IsEachFirst a (map (with_first asked) rows)
EachFirst-with_first asked a [] each = tt
EachFirst-with_first asked a (row ∷ rows) each =
    let s = each.0.0 in
    let parts = and_parts (a s && meets asked s) (meets_row row s) each.0.1 in
    let both = and_parts (a s) (meets asked s) parts.0 in (
      (s, and_from (a s) (meets_row (with_first asked row) s) both.0 (and_from (meets asked s) (meets_row row s) both.1 parts.1)),
      EachFirst-with_first asked (λ t. a t && not (meets_row (with_first asked row) t)) rows
          (EachFirst-weaker _ _ (λ t all. kept (a t) (meets asked t) (meets_row row t) all) rows each.1),
    )

-- a stranger that misses the requirement meets no row that has it
none-met : (asked : SidedRequirement) (s : Stranger) (rows : List ExposureRow) → meets asked s ≡ false → list_any (λ row. meets_row row s) (map (with_first asked) rows) ≡ false
none-met asked s [] misses = refl
none-met asked s (row ∷ rows) misses = rw misses (none-met asked s rows misses)

abbrev assumed_of : List SidedRequirement → Stranger → Bool
assumed_of assumed s = is_hypothetical s && meets_all assumed s

more-met : (asked : SidedRequirement) (assumed : List SidedRequirement) (s : Stranger) → assumed_of (asked ∷ assumed) s ≡ true → (assumed_of assumed s && meets asked s) ≡ true
more-met asked assumed s is =
    let parts = and_parts (is_hypothetical s) (meets_all (asked ∷ assumed) s) is in
    let rest = and_parts (meets asked s) (meets_all assumed s) parts.1 in
    and_from (assumed_of assumed s) (meets asked s) (and_from (is_hypothetical s) (meets_all assumed s) parts.0 rest.1) rest.0

less-assumed : (asked : SidedRequirement) (assumed : List SidedRequirement) (s : Stranger) → assumed_of (asked ∷ assumed) s ≡ true → assumed_of assumed s ≡ true
less-assumed asked assumed s is = (and_parts (assumed_of assumed s) (meets asked s) (more-met asked assumed s is)).0

missed-of : (asked : SidedRequirement) (assumed : List SidedRequirement) (s : Stranger) → assumed_of (negated asked ∷ assumed) s ≡ true → meets asked s ≡ false
missed-of asked assumed s is = not-true (meets asked s) (sym (meets-negated asked s) ∙ (and_parts (assumed_of assumed s) (meets (negated asked) s) (more-met (negated asked) assumed s is)).1)

joined-each : (asked : SidedRequirement) (assumed : List SidedRequirement) (met unmet rows : List ExposureRow) → IsJoined asked met unmet rows → IsEachFirst (assumed_of (asked ∷ assumed)) met →
    IsEachFirst (assumed_of (negated asked ∷ assumed)) unmet → IsEachFirst (assumed_of assumed) rows
joined-each asked assumed met unmet rows (equal same is) first second =
    subst (IsEachFirst (assumed_of assumed)) (sym is) (EachFirst-weaker (assumed_of (asked ∷ assumed)) (assumed_of assumed) (less-assumed asked assumed) met first)
joined-each asked assumed met unmet rows (apart differ is) first second =
    subst (IsEachFirst (assumed_of assumed)) (sym is)
    (EachFirst-append (assumed_of assumed) (map (with_first asked) met) unmet
    (EachFirst-with_first asked (assumed_of assumed) met (EachFirst-weaker (assumed_of (asked ∷ assumed)) (λ s. assumed_of assumed s && meets asked s) (more-met asked assumed) met first))
    (EachFirst-weaker (assumed_of (negated asked ∷ assumed)) _ (λ s all.
    and_from (assumed_of assumed s) (not (list_any (λ row. meets_row row s) (map (with_first asked) met))) (less-assumed (negated asked) assumed s all)
    (not_from_false _ (none-met asked s met (missed-of asked assumed s all)))) unmet second))

each-first : (side : PodSide) (left assumed : List SidedRequirement) (rows : List ExposureRow) → IsPossible assumed → AreRows side left assumed rows → IsEachFirst (assumed_of assumed) rows
unfolding AreRows
each-first side [] assumed rows possible are = subst (IsEachFirst (assumed_of assumed)) (sym are.2) ((possible.0, and_from (assumed_of assumed possible.0) true possible.1 refl), tt)
each-first side (asked ∷ left) assumed rows possible are = by are (each-first side left (asked ∷ assumed)) (each-first side left (negated asked ∷ assumed))
  where
    by : AreRowsAt asked (IsPossible (asked ∷ assumed)) (IsPossible (negated asked ∷ assumed)) (AreRows side left (asked ∷ assumed)) (AreRows side left (negated asked ∷ assumed)) rows
        → ((more : List ExposureRow) → IsPossible (asked ∷ assumed) → AreRows side left (asked ∷ assumed) more → IsEachFirst (assumed_of (asked ∷ assumed)) more)
        → ((more : List ExposureRow) → IsPossible (negated asked ∷ assumed) → AreRows side left (negated asked ∷ assumed) more → IsEachFirst (assumed_of (negated asked ∷ assumed)) more)
        → IsEachFirst (assumed_of assumed) rows
    by (always can cannot met) one other = EachFirst-weaker (assumed_of (asked ∷ assumed)) (assumed_of assumed) (less-assumed asked assumed) rows (one rows can met)
    by (never cannot can unmet) one other = EachFirst-weaker (assumed_of (negated asked ∷ assumed)) (assumed_of assumed) (less-assumed (negated asked) assumed) rows (other rows can unmet)
    by (either can can' met unmet first second joined) one other = joined-each asked assumed met unmet rows joined (one met can first) (other unmet can' second)

-- some hypothetical pod there is
pub some_stranger : IsPossible []
some_stranger = (record { namespace = record { key = codes "kubernetes.io/metadata.name"; value = [] } ∷ []; labels = [] }, refl)

pub each_row-first : (side : PodSide) (rows : List ExposureRow) → AreRowsOf side rows → IsEachFirst is_hypothetical rows
each_row-first side rows are = EachFirst-weaker (assumed_of []) is_hypothetical (λ s all. (and_parts (is_hypothetical s) true all).0) rows
    (each-first side (requirements side) [] rows some_stranger are)

-- ---- one list

has-outside : (conns : Conns) (side : PodSide) (s : Stranger) (spot : PortSpot) → IsExposure side s conns → is_spot spot ≡ false → has_spot conns spot ≡ false
has-outside conns side s spot exposure outside = by (has_spot conns spot) refl
  where
    by : (b : Bool) → has_spot conns spot ≡ b → b ≡ false
    by false is = refl
    by true is = absurd (true≢false (sym (has_spot-is_spot conns spot exposure.well is) ∙ outside))

-- a stranger has one exposure
conns-equal : (side : PodSide) (s : Stranger) (a b : Conns) → IsExposure side s a → IsExposure side s b → a ≡ b
conns-equal side s a b first second = equal_by_spots a b first.well second.well (λ spot. by spot (is_spot spot) refl)
  where
    by : (spot : PortSpot) (inside : Bool) → is_spot spot ≡ inside → has_spot a spot ≡ has_spot b spot
    by spot true inside = first.members spot inside ∙ sym (second.members spot inside)
    by spot false outside = has-outside a side s spot first outside ∙ sym (has-outside b side s spot second outside)

joined-one : (asked : SidedRequirement) (met unmet a b : List ExposureRow) → IsJoined asked met unmet a → IsJoined asked met unmet b → a ≡ b
joined-one asked met unmet a b (equal same is) (equal same' is') = is ∙ sym is'
joined-one asked met unmet a b (equal same is) (apart differ is') = absurd (differ same)
joined-one asked met unmet a b (apart differ is) (equal same is') = absurd (differ same)
joined-one asked met unmet a b (apart differ is) (apart differ' is') = is ∙ sym is'

one-list : (side : PodSide) (left assumed : List SidedRequirement) (a b : List ExposureRow) → IsPossible assumed → AreRows side left assumed a → AreRows side left assumed b → a ≡ b
unfolding AreRows
one-list side [] assumed a b possible first second =
    first.2 ∙ ap (λ (conns : Conns). record { requirements = []; conns = conns } ∷ []) (conns-equal side possible.0 first.0 second.0 (first.1 possible.0 possible.1) (second.1 possible.0 possible.1))
    ∙ sym second.2
one-list side (asked ∷ left) assumed a b possible first second = by first second (one-list side left (asked ∷ assumed)) (one-list side left (negated asked ∷ assumed))
  where
    by : AreRowsAt asked (IsPossible (asked ∷ assumed)) (IsPossible (negated asked ∷ assumed)) (AreRows side left (asked ∷ assumed)) (AreRows side left (negated asked ∷ assumed)) a
        → AreRowsAt asked (IsPossible (asked ∷ assumed)) (IsPossible (negated asked ∷ assumed)) (AreRows side left (asked ∷ assumed)) (AreRows side left (negated asked ∷ assumed)) b
        → ((x y : List ExposureRow) → IsPossible (asked ∷ assumed) → AreRows side left (asked ∷ assumed) x → AreRows side left (asked ∷ assumed) y → x ≡ y)
        → ((x y : List ExposureRow) → IsPossible (negated asked ∷ assumed) → AreRows side left (negated asked ∷ assumed) x → AreRows side left (negated asked ∷ assumed) y → x ≡ y)
        → a ≡ b
    by (always can cannot met) (always can' cannot' met') one other = one a b can met met'
    by (always can cannot met) (never cannot' can' unmet') one other = absurd (cannot' can)
    by (always can cannot met) (either can' can2 m u first' second' joined) one other = absurd (cannot can2)
    by (never cannot can unmet) (always can' cannot' met') one other = absurd (cannot can')
    by (never cannot can unmet) (never cannot' can' unmet') one other = other a b can unmet unmet'
    by (never cannot can unmet) (either can' can2 m u first' second' joined) one other = absurd (cannot can')
    by (either can can2 m u first' second' joined) (always can' cannot' met') one other = absurd (cannot' can2)
    by (either can can2 m u first' second' joined) (never cannot' can' unmet') one other = absurd (cannot' can)
    by (either can can2 m u met unmet joined) (either can' can2' m' u' met' unmet' joined') one other =
        let here : IsJoined asked m u b = subst (λ (x : List ExposureRow). IsJoined asked x u b) (sym (one m m' can met met'))
        (subst (λ (y : List ExposureRow). IsJoined asked m' y b) (sym (other u u' can2 unmet unmet')) joined') in
        joined-one asked m u a b joined here

pub rows-one : (side : PodSide) (a b : List ExposureRow) → AreRowsOf side a → AreRowsOf side b → a ≡ b
rows-one side a b first second = one-list side (requirements side) [] a b some_stranger first second
