-- Lists of marked sets, one after another. For FirstMatch.
use Rattle.std.proofs.Common.{◌≡◌, ◌≢◌, Bool, true, List, ◌++◌, ap, ◌∙◌, append_assoc, map, filter}
use Rattle.std.proofs.lemmas.List.{map-append}
use Rattle.std.proofs.lemmas.List.Elements.{All-append, All-weaker, filter-append}
use Rattle.np_base.proofs.Lists.{AllPairs-append}
use Rattle.np_tiers.specs.Prelude.{AreEntries, IsCarving, Mark, Marked, mark_if, marks_at}

pub marks_at-append : {S : Type 0} (at : S → Bool) (xs ys : List (Marked S)) → marks_at at (xs ++ ys) ≡ marks_at at xs ++ marks_at at ys
marks_at-append {S} at xs ys =
    let mark : Marked S → Mark = λ entry. entry.mark in
    let has_it : Marked S → Bool = λ entry. at entry.set in
    ap (map mark) (filter-append has_it xs ys) ∙ map-append mark (filter has_it xs) (filter has_it ys)

module _ {S Spot : Type 0} (has : S → Spot → Bool) (IsWell : S → Type 0) where
  -- entries of two kinds whose marks differ
  pub AreEntries-append : (First Second Kind : Mark → Type 0) → ((m : Mark) → First m → Kind m) → ((m : Mark) → Second m → Kind m) → ((a b : Mark) → First a → Second b → a ≢ b) →
      (xs ys : List (Marked S)) → AreEntries has IsWell First xs → AreEntries has IsWell Second ys → AreEntries has IsWell Kind (xs ++ ys)
  AreEntries-append First Second Kind first second apart xs ys in_xs in_ys = record {
    distinct = AllPairs-append (λ a b. a.mark ≢ b.mark) (λ entry. First entry.mark) (λ entry. Second entry.mark)
        (λ a b. apart a.mark b.mark) xs ys in_xs.distinct in_ys.distinct in_xs.of_kind in_ys.of_kind;
    of_kind = All-append (λ entry. Kind entry.mark) xs ys (All-weaker (λ entry. First entry.mark) (λ entry. Kind entry.mark) (λ entry. first entry.mark) xs in_xs.of_kind)
        (All-weaker (λ entry. Second entry.mark) (λ entry. Kind entry.mark) (λ entry. second entry.mark) ys in_ys.of_kind);
    well = All-append (λ entry. IsWell entry.set) xs ys in_xs.well in_ys.well;
    some_spot = All-append (λ entry. (spot : Spot) × (has entry.set spot ≡ true)) xs ys in_xs.some_spot in_ys.some_spot;
  }

  -- A list that grows as the walk goes on: the marks so far, and what the rest of the walk says of the spots that are
  -- left, are together the marks of `within`.
  pub record IsBegun (within : Spot → Bool) (mark_at : Spot → Mark) (left : Spot → Bool) (rest_at : Spot → Mark) (Kind : Mark → Type 0) (begun : List (Marked S)) : Type 0 where
    pub marks : (spot : Spot) → marks_at (λ set. has set spot) begun ++ mark_if (left spot) (rest_at spot) ≡ mark_if (within spot) (mark_at spot)
    pub entries : AreEntries has IsWell Kind begun

  -- the entries of one more part
  pub IsBegun-more : (within : Spot → Bool) (mark_at : Spot → Mark) (left left' : Spot → Bool) (rest_at rest_at' : Spot → Mark) (Kind Found Kind' : Mark → Type 0) → ((m : Mark) → Kind m → Kind' m) →
      ((m : Mark) → Found m → Kind' m) → ((a b : Mark) → Kind a → Found b → a ≢ b) → (hit : Spot → Bool) (found_at : Spot → Mark) (begun found : List (Marked S)) →
      IsBegun within mark_at left rest_at Kind begun → IsCarving has IsWell hit found_at Found found →
      ((spot : Spot) → mark_if (hit spot) (found_at spot) ++ mark_if (left' spot) (rest_at' spot) ≡ mark_if (left spot) (rest_at spot)) → IsBegun within mark_at left' rest_at' Kind' (begun ++ found)
  IsBegun-more within mark_at left left' rest_at rest_at' Kind Found Kind' kept new apart hit found_at begun found so_far one step = record {
    marks = λ spot.
        let at : S → Bool = λ set. has set spot in
        let rest : List Mark = mark_if (left' spot) (rest_at' spot) in
        ap (λ (ms : List Mark). ms ++ rest) (marks_at-append at begun found ∙ ap (λ (ms : List Mark). marks_at at begun ++ ms) (one.marks spot))
        ∙ append_assoc (marks_at at begun) (mark_if (hit spot) (found_at spot)) rest
        ∙ ap (λ (ms : List Mark). marks_at at begun ++ ms) (step spot)
        ∙ so_far.marks spot;
    entries = AreEntries-append Kind Found Kind' kept new apart begun found so_far.entries one.entries;
  }

  -- the entries of all that is left
  pub IsBegun-end : (within : Spot → Bool) (mark_at : Spot → Mark) (left : Spot → Bool) (rest_at last_at : Spot → Mark) (Kind Last Kind' : Mark → Type 0) → ((m : Mark) → Kind m → Kind' m) →
      ((m : Mark) → Last m → Kind' m) → ((a b : Mark) → Kind a → Last b → a ≢ b) → (begun last : List (Marked S)) → IsBegun within mark_at left rest_at Kind begun →
      IsCarving has IsWell left last_at Last last → ((spot : Spot) → last_at spot ≡ rest_at spot) → IsCarving has IsWell within mark_at Kind' (begun ++ last)
  IsBegun-end within mark_at left rest_at last_at Kind Last Kind' kept new apart begun last so_far one same = record {
    marks = λ spot.
        let at : S → Bool = λ set. has set spot in
        marks_at-append at begun last
        ∙ ap (λ (ms : List Mark). marks_at at begun ++ ms) (one.marks spot ∙ ap (mark_if (left spot)) (same spot))
        ∙ so_far.marks spot;
    entries = AreEntries-append Kind Last Kind' kept new apart begun last so_far.entries one.entries;
  }
