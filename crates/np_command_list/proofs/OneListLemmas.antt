-- Lists of rows in order of which each row of the one is told as a row of the other.
-- For OneTextLemmas, SameRangesLemmas and SameRowsLemmas.
use Rattle.std.proofs.Common.{◌≡◌, ◌<◌, ◌⊎◌, inl, inr, ℕ, zero, suc, List, [], ◌∷◌, map, length, slice_index_or, Bool, true, false, All, AllPairs, Contains, Option, if◌then◌else◌, arith, refl, sym, ap, subst, ◌∙◌}
use Rattle.std.specs.Prelude.{filter}
use Rattle.std.specs.Cmp.{IsTotalOrder, tied_itself}
use Rattle.std.specs.Cmp.Lexicographic.{nat_list_cmp_total, slice_cmp}
use Rattle.std.specs.Ordering.{nat_cmp}
use Rattle.std.specs.declared.cmp.Ordering.TheVariants.{Equal, Less}
use Rattle.std.proofs.lemmas.Bool.{false≢true}
use Rattle.std.proofs.lemmas.List.Elements.{All-contains, All-contains_itself, All-filter, filter_passes}
use Rattle.np_command_list.specs.Prelude.{ComesBefore, Family, Row, RowKey, row_rank, row_rank_of}
use Rattle.np_conns.specs.Prelude.{has_spot}
use Rattle.np_table.specs.Prelude.{AllowSamePorts}
use Rattle.np_base.proofs.Lists.{AllPairs-head, AllPairs-tail}

-- ---- what a list has

module _ {X : Type 0} where
  pub has-head : (x : X) (xs : List X) → Contains (x ∷ xs) x
  has-head x xs = (0, omega arith, refl)

  pub has-tail : (x z : X) (xs : List X) → Contains xs z → Contains (x ∷ xs) z
  has-tail x z xs has = (suc has.0, omega (arith, has.1), has.2)

  pub has-cases : (x z : X) (xs : List X) → Contains (x ∷ xs) z → (x ≡ z) ⊎ Contains xs z
  has-cases x z xs has = by has.0 has.1 has.2
    where
      by : (k : ℕ) → k < length (x ∷ xs) → slice_index_or (x ∷ xs) k z ≡ z → (x ≡ z) ⊎ Contains xs z
      by zero within at = inl at
      by (suc k) within at = inr (k, omega (arith, within), at)

  pub nothing-has : (z : X) → Contains [] z → ⊥
  nothing-has z has = omega (arith, has.1)

  -- what passes a test is among what the test keeps
  pub kept : (test : X → Bool) (xs : List X) (z : X) → Contains xs z → test z ≡ true → Contains (filter test xs) z
  kept test [] z has is = absurd (nothing-has z has)
  kept test (x ∷ xs) z has is = by (test x) refl (has-cases x z xs has) (λ among. kept test xs z among is)
    where
      by : (answer : Bool) → test x ≡ answer → (x ≡ z) ⊎ Contains xs z → (Contains xs z → Contains (filter test xs) z) → Contains (if answer then x ∷ filter test xs else filter test xs) z
      by true at (inl same) rest = subst (Contains (x ∷ filter test xs)) same (has-head x (filter test xs))
      by true at (inr among) rest = has-tail x z (filter test xs) (rest among)
      by false at (inl same) rest = absurd (false≢true (sym at ∙ ap test same ∙ is))
      by false at (inr among) rest = rest among

  pub from-kept : (test : X → Bool) (xs : List X) (z : X) → Contains (filter test xs) z → Contains xs z × (test z ≡ true)
  from-kept test xs z has = (
    All-contains (Contains xs) (filter test xs) z (All-filter test (Contains xs) xs (All-contains_itself xs)) has,
    All-contains (λ (one : X). test one ≡ true) (filter test xs) z (filter_passes test xs) has,
  )

-- ---- ranks

-- no row comes before one of its rank
apart : (row next : Row) → row_rank row ≡ row_rank next → ComesBefore row next → ⊥
apart row next same before =
    let tied = tied_itself nat_list_cmp_total (row_rank row) in
    let less : slice_cmp nat_cmp (row_rank row) (row_rank row) ≡ Less = ap (λ (rank : List ℕ). slice_cmp nat_cmp (row_rank row) rank) same ∙ before in
    let is : Equal ≡ Less = sym tied ∙ less in (cc)

before-trans : (one other third : Row) → ComesBefore one other → ComesBefore other third → ComesBefore one third
before-trans one other third first second = let total : IsTotalOrder (slice_cmp nat_cmp) = nat_list_cmp_total in total.trans (row_rank one) (row_rank other) (row_rank third) first second

-- of rows in order no two have one rank
pub one-of_rank : (rows : List Row) → AllPairs ComesBefore rows → (one other : Row) → Contains rows one → Contains rows other → row_rank one ≡ row_rank other → one ≡ other
one-of_rank [] order one other has has' same = absurd (nothing-has one has)
one-of_rank (row ∷ rows) order one other has has' same = by (has-cases row one rows has) (has-cases row other rows has') (one-of_rank rows (AllPairs-tail ComesBefore row rows order) one other)
  where
    later : All (ComesBefore row) rows
    later = AllPairs-head ComesBefore row rows order

    by : (row ≡ one) ⊎ Contains rows one → (row ≡ other) ⊎ Contains rows other → (Contains rows one → Contains rows other → row_rank one ≡ row_rank other → one ≡ other) → one ≡ other
    by (inl is) (inl is') rest = sym is ∙ is'
    by (inl is) (inr among) rest = absurd (apart row other (ap row_rank is ∙ same) (All-contains (ComesBefore row) rows other later among))
    by (inr among) (inl is') rest = absurd (apart row one (ap row_rank is' ∙ sym same) (All-contains (ComesBefore row) rows one later among))
    by (inr among) (inr among') rest = rest among among' same

-- ---- rows that are told alike

-- two rows have the same ends and the same mark, and by both the same ports pass
pub record AreToldAlike (one other : Row) : Type 0 where
  pub key : one.key ≡ other.key
  pub family : one.family ≡ other.family
  pub ports : AllowSamePorts (has_spot one.conns) (has_spot other.conns)

pub told-rank : (one other : Row) → one.key ≡ other.key → one.family ≡ other.family → row_rank one ≡ row_rank other
told-rank one other key family =
    ap (λ (key : RowKey). row_rank_of key.source key.destination one.family) key ∙ ap (λ (mark : Option Family). row_rank_of other.key.source other.key.destination mark) family

-- each row of a list is told as one of another
abbrev pub AreAmong : List Row → List Row → Type 0
AreAmong rows others = (row : Row) → Contains rows row → (other : Row) × Contains others other × AreToldAlike row other

-- of two lists in order the rows behind the first ones are among each other, where the first ones are told alike
tails-among : (row other : Row) (rows others : List Row) → AllPairs ComesBefore (row ∷ rows) → row_rank row ≡ row_rank other → AreAmong (row ∷ rows) (other ∷ others) → AreAmong rows others
tails-among row other rows others order same among = λ one has.
    let found = among one (has-tail row one rows has) in
    elim (has-cases other found.0 others found.1) [
      | inl is ↦
          absurd (apart row one (same ∙ ap row_rank is ∙ sym (told-rank one found.0 found.2.key found.2.family))
          (All-contains (ComesBefore row) rows one (AllPairs-head ComesBefore row rows order) has))
      | inr behind ↦ (found.0, behind, found.2)
    ]

-- and the first ones have one rank
heads-alike : (row other : Row) (rows others : List Row) → AllPairs ComesBefore (row ∷ rows) → AllPairs ComesBefore (other ∷ others) → AreAmong (row ∷ rows) (other ∷ others) →
    AreAmong (other ∷ others) (row ∷ rows) → AreToldAlike row other
heads-alike row other rows others order order' among among' =
    let mate = among row (has-head row rows) in
    let back = among' other (has-head other others) in
    by mate back (has-cases other mate.0 others mate.1) (has-cases row back.0 rows back.1)
  where
    by : (mate : (one : Row) × Contains (other ∷ others) one × AreToldAlike row one) (back : (one : Row) × Contains (row ∷ rows) one × AreToldAlike other one) →
        (other ≡ mate.0) ⊎ Contains others mate.0 → (row ≡ back.0) ⊎ Contains rows back.0 → AreToldAlike row other
    by mate back (inl is) second = subst (AreToldAlike row) (sym is) mate.2
    by mate back (inr behind) (inl is') =
        let same = told-rank row mate.0 mate.2.key mate.2.family in
        let same' = told-rank other back.0 back.2.key back.2.family in
        absurd (apart other mate.0 (same' ∙ sym (ap row_rank is') ∙ same) (All-contains (ComesBefore other) others mate.0 (AllPairs-head ComesBefore other others order') behind))
    by mate back (inr behind) (inr behind') =
        let same = told-rank row mate.0 mate.2.key mate.2.family in
        let same' = told-rank other back.0 back.2.key back.2.family in
        let down : ComesBefore other mate.0 = All-contains (ComesBefore other) others mate.0 (AllPairs-head ComesBefore other others order') behind in
        let up : ComesBefore row back.0 = All-contains (ComesBefore row) rows back.0 (AllPairs-head ComesBefore row rows order) behind' in
        let first : ComesBefore row other = ap (λ (rank : List ℕ). slice_cmp nat_cmp (row_rank row) rank) same' ∙ up in
        absurd (apart row mate.0 same (before-trans row other mate.0 first down))

-- Lists in order of which each row of the one is told as one of the other are told alike.
pub told-alike : {Y : Type 0} (text : Row → Y) → ((one other : Row) → AreToldAlike one other → text one ≡ text other) → (rows others : List Row)
    → AllPairs ComesBefore rows → AllPairs ComesBefore others →
    AreAmong rows others → AreAmong others rows → map text rows ≡ map text others
told-alike text alike [] [] order order' among among' = refl
told-alike text alike [] (other ∷ others) order order' among among' = let found = among' other (has-head other others) in absurd (nothing-has found.0 found.1)
told-alike text alike (row ∷ rows) [] order order' among among' = let found = among row (has-head row rows) in absurd (nothing-has found.0 found.1)
told-alike {Y} text alike (row ∷ rows) (other ∷ others) order order' among among' =
    let heads = heads-alike row other rows others order order' among among' in
    let same = told-rank row other heads.key heads.family in
    ap (λ (first : Y). first ∷ map text rows) (alike row other heads)
    ∙ ap (λ (rest : List Y). text other ∷ rest) (told-alike text alike rows others (AllPairs-tail ComesBefore row rows order) (AllPairs-tail ComesBefore other others order')
    (tails-among row other rows others order same among) (tails-among other row others rows order' (sym same) among'))
