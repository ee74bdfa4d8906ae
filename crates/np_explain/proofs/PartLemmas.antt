-- The carved sets, named and in order, are the right parts. For `named_parts` and `parts_with`.
use Rattle.std.proofs.Common.{◌≡◌, ◌≢◌, ◌↔◌, ℕ, ◌<◌, ◌≤◌, List, [], ◌∷◌, ◌++◌, Bool, true, false, ◌||◌, IsTrue, eqb, length, get_or, map, filter, All, AllPairs, refl, sym, ap, append_assoc, ◌∙◌, subst, arith, inl, inr, if◌then◌else◌}
use Rattle.std.specs.List.{IsDistinct, list_any}
use Rattle.std.specs.List.Sorted.{IsNonDecreasing, IsNonDecreasingBy, IsPermutation}
use Rattle.std.proofs.lemmas.Bool.Decides.{nat_tests}
use Rattle.std.proofs.lemmas.List.{get_or-map, length-map}
use Rattle.std.proofs.lemmas.List.Elements.{All-map}
use Rattle.std.proofs.lemmas.List.Kept.{AllPairs-from_increasing}
use Rattle.std.proofs.lemmas.List.Sorted.{All-permutation, IsPermutation-map, list_any-IsPermutation}
use Rattle.std.proofs.lemmas.Option.{slice_get_cases}
use Rattle.std.proofs.lemmas.Map.Keys.{IsDistinct-IsPermutation, IsDistinct-from_apart, IsStrictlyIncreasing-from_distinct}
use Rattle.np_conns.specs.Prelude.{Conns, IsConns, has_spot, has_spot-is_spot, is_spot}
use Rattle.np_explain.specs.Prelude.{AreRightParts, Decider, IsMarkOf, Layer, Mark, Marked, Part, PortSpot, StartsBefore, first_number, mark_decider, named_part}
use Rattle.np_model.specs.Prelude.{IsLawful}
use Rattle.np_explain.proofs.FirstLemmas.{first_is, numbers_tell}
use Rattle.np_explain.proofs.MarkLemmas.{marks_told}
use Rattle.np_explain.proofs.WalkLemmas.{mark_named}
use Rattle.np_rules.specs.Prelude.{Contact, IsLayer, PodSide, decider, near_pod, pod}
use Rattle.np_tiers.specs.Prelude.{mark_of, marks_at}

-- ---- what carving gives, as one record

pub record IsCarved (layer : Layer Conns) (entries : List (Marked Conns)) : Type 0 where
  pub marks : (spot : PortSpot) → is_spot spot ≡ true → marks_at (λ set. has_spot set spot) entries ≡ mark_of (λ set. has_spot set spot) layer ∷ []
  pub exact : All (λ entry. (spot : PortSpot) → IsTrue (has_spot entry.set spot) ↔ (IsTrue (is_spot spot) × (mark_of (λ set. has_spot set spot) layer ≡ entry.mark))) entries
  pub distinct : AllPairs (λ a b. a.mark ≢ b.mark) entries
  pub some_spot : All (λ entry. (spot : PortSpot) × (has_spot entry.set spot ≡ true)) entries
  pub well : All (λ entry. IsConns entry.set) entries

-- whether some part has the spot
abbrev pub some_part_has : PortSpot → List Part → Bool
some_part_has spot parts = list_any (λ part. has_spot part.conns spot) parts

-- where the marks at a spot are not none, some part has it
some_marked : (side : PodSide) (spot : PortSpot) (m : Mark) (entries : List (Marked Conns)) → marks_at (λ set. has_spot set spot) entries ≡ m ∷ [] →
    some_part_has spot (map (named_part side) entries) ≡ true
some_marked side spot m [] marks = cc
some_marked side spot m (entry ∷ entries) marks = go (has_spot entry.set spot) marks (λ is. some_marked side spot m entries is)
  where
    go : (b : Bool) → map (λ e. e.mark) (if b then entry ∷ filter (λ e. has_spot e.set spot) entries else filter (λ e. has_spot e.set spot) entries) ≡ m ∷ [] →
        (map (λ e. e.mark) (filter (λ e. has_spot e.set spot) entries) ≡ m ∷ [] → some_part_has spot (map (named_part side) entries) ≡ true) → (b || some_part_has spot (map (named_part side) entries)) ≡ true
    go true is later = refl
    go false is later = later is

-- one part more is made, of the first of the entries that are left
pub parts_more : (side : PodSide) (before made : List Part) (entry : Marked Conns) (rest left : List (Marked Conns)) (decider : Decider) (all : List Part) → left ≡ entry ∷ rest →
    decider ≡ mark_decider side entry.mark → made ≡ before ++ record { decider = decider; conns = entry.set } ∷ [] → before ++ map (named_part side) left ≡ all →
    made ++ map (named_part side) rest ≡ all
parts_more side before made entry rest left decider all is decides pushed so_far =
    let others : List Part = map (named_part side) rest in
    let of_decider : Decider → List Part = λ d. before ++ record { decider = d; conns = entry.set } ∷ others in
    let with_others : List Part → List Part = λ parts. parts ++ others in
    let after : List (Marked Conns) → List Part = λ entries. before ++ map (named_part side) entries in
    ap with_others pushed ∙ append_assoc before (record { decider = decider; conns = entry.set } ∷ []) others ∙ ap of_decider decides ∙ sym (ap after is) ∙ so_far

-- related images of related items
pub AllPairs-map : {X Y : Type 0} (R : Y → Y → Type 0) (f : X → Y) (xs : List X) → AllPairs (λ a b. R (f a) (f b)) xs → AllPairs R (map f xs)
AllPairs-map {X} {Y} R f xs pairs i j d earlier within = read (rw length-map at within)
  where
    read : j < length xs → R (get_or (map f xs) i d) (get_or (map f xs) j d)
    read below =
        elim (slice_get_cases xs i).1 [
          | inl there ↦ rw (get_or-map f xs i there.0 d there.1, get_or-map f xs j there.0 d below) (pairs i j there.0 earlier below)
          | inr past ↦ absurd (omega (arith, past.0))
        ]

-- ---- the parts in order

-- lists of one order and of different numbers are strictly in order
abbrev first_of : Part → ℕ
first_of part = first_number part.conns

eqb_flips : (m n : ℕ) → eqb m n ≡ eqb n m
eqb_flips m n = grind (arith, nat_tests)

apart_kept : (before after : List Part) → IsPermutation before after → AllPairs (λ a b. first_of a ≢ first_of b) before → IsDistinct eqb (map first_of after)
apart_kept before after moved apart =
    IsDistinct-IsPermutation eqb eqb_flips (map first_of before) (map first_of after) (IsPermutation-map first_of before after moved)
    (IsDistinct-from_apart eqb (map first_of before) (λ i j d earlier within. not_equal i j d earlier (rw length-map at within)))
  where
    eqb_false : (m n : ℕ) → m ≢ n → eqb m n ≡ false
    eqb_false m n differ = grind (arith, nat_tests)

    not_equal : (i j d : ℕ) → i < j → j < length before → eqb (get_or (map first_of before) i d) (get_or (map first_of before) j d) ≡ false
    not_equal i j d earlier within =
        elim (slice_get_cases before i).1 [
          | inl there ↦ eqb_false _ _ (λ same. apart i j there.0 earlier within (sym (get_or-map first_of before i there.0 d there.1) ∙ same ∙ get_or-map first_of before j there.0 d within))
          | inr past ↦ absurd (omega (arith, past.0))
        ]

strictly : (parts : List Part) → IsNonDecreasingBy first_of parts → IsDistinct eqb (map first_of parts) → AllPairs (λ a b. first_of a < first_of b) parts
strictly parts ordered distinct i j d earlier within =
    rw (← get_or-map first_of parts i d (first_of d) (omega arith), ← get_or-map first_of parts j d (first_of d) within)
    (AllPairs-from_increasing (map first_of parts) (IsStrictlyIncreasing-from_distinct (map first_of parts) not_falling distinct) i j (first_of d) earlier (rw length-map within))
  where
    not_falling : IsNonDecreasing (map first_of parts)
    not_falling m n e upto inside = read (rw length-map at inside)
      where
        read : n < length parts → get_or (map first_of parts) m e ≤ get_or (map first_of parts) n e
        read below =
            elim (slice_get_cases parts n).1 [
              | inl there ↦ rw (get_or-map first_of parts m there.0 e (omega arith), get_or-map first_of parts n there.0 e below) (ordered m n there.0 upto below)
              | inr past ↦ absurd (omega (arith, past.0))
            ]

-- ---- all of it

module _ (side : PodSide) (looks_at : PortSpot → Contact) (layer : Layer Conns) (entries : List (Marked Conns)) (lawful : IsLawful side.lists)
    (is : IsLayer has_spot is_spot looks_at side.lists side.direction (near_pod side) layer) (carved : IsCarved layer entries) where
  pub entry_marks : All (λ entry. IsMarkOf side entry.mark) entries
  entry_marks k d within =
      let filled = carved.some_spot k d within in
      let exact = (carved.exact k d within filled.0).0 filled.1 in
      subst (IsMarkOf side) exact.1 (mark_named has_spot is_spot side looks_at layer lawful is filled.0 exact.0).1

  entry_spots : All (λ entry. (spot : PortSpot) → is_spot spot ≡ true → IsTrue (has_spot entry.set spot) ↔
      (decider side.lists side.direction (pod (near_pod side)) (looks_at spot) ≡ mark_decider side entry.mark)) entries
  entry_spots k d within = λ spot inside.
      let named = mark_named has_spot is_spot side looks_at layer lawful is spot inside in
      let exact = carved.exact k d within spot in (
        λ has. sym named.0 ∙ ap (mark_decider side) (exact.0 has).1,
        λ same. exact.1 (inside, marks_told side lawful (mark_of (λ set. has_spot set spot) layer) _ named.1 (entry_marks k d within) (named.0 ∙ same)),
      )

  entry_firsts : AllPairs (λ a b. first_number a.set ≢ first_number b.set) entries
  entry_firsts i j d earlier within same =
      let before : i < length entries = omega arith in
      let one = first_is (get_or entries i d).set (carved.well i d before) (carved.some_spot i d before).0 (carved.some_spot i d before).1 in
      let other = first_is (get_or entries j d).set (carved.well j d within) (carved.some_spot j d within).0 (carved.some_spot j d within).1 in
      let spots : one.spot ≡ other.spot = numbers_tell one.spot other.spot (has_spot-is_spot _ one.spot (carved.well i d before) one.has)
      (has_spot-is_spot _ other.spot (carved.well j d within) other.has) (one.is ∙ same ∙ sym other.is) in
      let marked : PortSpot → Mark = λ spot. mark_of (λ set. has_spot set spot) layer in
      carved.distinct i j d earlier within (sym ((carved.exact i d before one.spot).0 one.has).1 ∙ ap marked spots ∙ ((carved.exact j d within other.spot).0 other.has).1)

  pub right_parts : (parts : List Part) → IsPermutation (map (named_part side) entries) parts → IsNonDecreasingBy (λ part. first_number part.conns) parts →
      AreRightParts (λ spot. decider side.lists side.direction (pod (near_pod side)) (looks_at spot)) parts
  right_parts parts moved ordered = record {
    spots = spots;
    all = λ spot inside. sym (list_any-IsPermutation (λ part. has_spot part.conns spot) (map (named_part side) entries) parts moved) ∙ some_marked side spot _ entries (carved.marks spot inside);
    distinct = λ i j d earlier within same.
        let starts = in_order i j d earlier within in
        let inside : is_spot starts.spot ≡ true = has_spot-is_spot _ starts.spot (well i d (omega arith)) starts.has in
        let has = (spots j d within starts.spot inside).1 ((spots i d (omega arith) starts.spot inside).0 starts.has ∙ same) in
        absurd (omega (arith, starts.first starts.spot has));
    filled = filled;
    well = well;
    ordered = in_order;
  }
    where
      before : List Part
      before = map (named_part side) entries

      spots : All (λ part. (spot : PortSpot) → is_spot spot ≡ true → IsTrue (has_spot part.conns spot) ↔ (decider side.lists side.direction (pod (near_pod side)) (looks_at spot) ≡ part.decider)) parts
      spots =
          All-permutation (λ part. (spot : PortSpot) → is_spot spot ≡ true → IsTrue (has_spot part.conns spot) ↔
          (decider side.lists side.direction (pod (near_pod side)) (looks_at spot) ≡ part.decider)) (map (named_part side) entries) parts moved
          (All-map (λ part. (spot : PortSpot) → is_spot spot ≡ true → IsTrue (has_spot part.conns spot) ↔ (decider side.lists side.direction (pod (near_pod side)) (looks_at spot) ≡ part.decider))
          (named_part side) entries entry_spots)

      filled : All (λ part. (spot : PortSpot) × (has_spot part.conns spot ≡ true)) parts
      filled =
          All-permutation (λ part. (spot : PortSpot) × (has_spot part.conns spot ≡ true)) (map (named_part side) entries) parts moved
          (All-map (λ part. (spot : PortSpot) × (has_spot part.conns spot ≡ true)) (named_part side) entries carved.some_spot)

      well : All (λ part. IsConns part.conns) parts
      well = All-permutation (λ part. IsConns part.conns) (map (named_part side) entries) parts moved (All-map (λ part. IsConns part.conns) (named_part side) entries carved.well)

      firsts_apart : AllPairs (λ a b. first_of a ≢ first_of b) (map (named_part side) entries)
      firsts_apart = AllPairs-map (λ a b. first_of a ≢ first_of b) (named_part side) entries entry_firsts

      in_order : AllPairs (λ a b. StartsBefore a.conns b.conns) parts
      in_order = λ i j d earlier within.
          let less = strictly parts ordered (apart_kept (map (named_part side) entries) parts moved firsts_apart) i j d earlier within in
          let one = first_is (get_or parts i d).conns (well i d (omega arith)) (filled i d (omega arith)).0 (filled i d (omega arith)).1 in
          let other = first_is (get_or parts j d).conns (well j d within) (filled j d within).0 (filled j d within).1 in
          record { spot = one.spot; has = one.has; first = λ later has. omega (arith, one.is, less, other.least later has) }
