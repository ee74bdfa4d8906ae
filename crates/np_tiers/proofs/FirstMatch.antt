-- A loop that goes down a list and carves out the spots that each item is the first to have.
-- For `carve_admin`, `carve_base` and `carve_net`.
use Rattle.std.proofs.Common.{◌≡◌, ℕ, ◌+◌, ◌<◌, ◌≤◌, Bool, true, false, not, ◌&&◌, if◌then◌else◌, Option, Some, None, List, [], ◌∷◌, ◌++◌, length, get_or, drop, refl, sym, ap, ◌∙◌}
use Rattle.std.proofs.lemmas.List.{drop_all}
use Rattle.np_base.proofs.Lists.{drop-item}
use Rattle.np_tiers.specs.Prelude.{IsCarving, Mark, Marked, mark_if}
use Rattle.np_tiers.proofs.EntryLists.{IsBegun, IsBegun-more, IsBegun-end}
use Rattle.np_tiers.proofs.Places.{IsBelow, IsBelow-more, IsBelow-next, apart_at, apart_at_end}

-- the item that has the spot decides it where it is left, and the rest of the walk decides the others
step_at : (left here hit left' : Bool) (found rest whole : Mark) → hit ≡ (left && here) → left' ≡ (left && not here) → whole ≡ (if here then found else rest) →
    mark_if hit found ++ mark_if left' rest ≡ mark_if left whole
step_at false here hit left' found rest whole is_hit is_left is_whole = rw (is_hit, is_left) refl
step_at true true hit left' found rest whole is_hit is_left is_whole = rw (is_hit, is_left, is_whole) refl
step_at true false hit left' found rest whole is_hit is_left is_whole = rw (is_hit, is_left, is_whole) refl

-- how a tier names what decides a spot
pub record Tier (S X : Type 0) : Type 0 where
  pub set_of : X → S
  -- the mark by these items, of which the first stands at the place
  pub mark_from : (S → Bool) → ℕ → List X → Mark
  -- the mark where this item, which stands at the place, is the first to have the spot
  pub mark_at : (S → Bool) → ℕ → X → Mark
  pub first_decides : (at : S → Bool) (place : ℕ) (item : X) (items : List X) → mark_from at place (item ∷ items) ≡ (if at (set_of item) then mark_at at place item else mark_from at (place + 1) items)
  -- the place that such a mark names
  pub place_of : Mark → Option ℕ

module _ {S Spot X : Type 0} (has : S → Spot → Bool) (IsWell : S → Type 0) (tier : Tier S X) (Kind : Mark → Type 0) (within : Spot → Bool) (items : List X) where
  -- the items from `place` on decide the spots that are left
  abbrev pub IsCarvedUpTo : ℕ → S → List (Marked S) → Type 0
  IsCarvedUpTo place left begun = IsBegun has IsWell within (λ spot. tier.mark_from (λ set. has set spot) 0 items) (has left) (λ spot. tier.mark_from (λ set. has set spot) place (drop place items))
      (λ mark. Kind mark × IsBelow (tier.place_of mark) place) begun

  -- after one more item, whose spots are carved
  pub carved_more : (Found : Mark → Type 0) (place : ℕ) → ((m : Mark) → Found m → Kind m × (tier.place_of m ≡ Some place)) → (item : X) (left hit left' : S) (begun found : List (Marked S)) →
      place < length items → item ≡ get_or items place item → ((spot : Spot) → has hit spot ≡ (has left spot && has (tier.set_of item) spot)) →
      ((spot : Spot) → has left' spot ≡ (has left spot && not (has (tier.set_of item) spot))) → IsCarvedUpTo place left begun →
      IsCarving has IsWell (has hit) (λ spot. tier.mark_at (λ set. has set spot) place item) Found found → IsCarvedUpTo (place + 1) left' (begun ++ found)
  carved_more Found place is_found item left hit left' begun found inside read is_hit is_left so_far one =
      IsBegun-more has IsWell within (λ spot. tier.mark_from (λ set. has set spot) 0 items) (has left) (has left') (λ spot. tier.mark_from (λ set. has set spot) place (drop place items))
      (λ spot. tier.mark_from (λ set. has set spot) (place + 1) (drop (place + 1) items)) (λ mark. Kind mark × IsBelow (tier.place_of mark) place) Found
      (λ mark. Kind mark × IsBelow (tier.place_of mark) (place + 1))
      (λ m earlier. (earlier.0, IsBelow-more (tier.place_of m) place earlier.1))
      (λ m new. ((is_found m new).0, IsBelow-next (tier.place_of m) place (is_found m new).1))
      (λ a b earlier new. apart_at tier.place_of place a b earlier.1 (is_found b new).1)
      (has hit) (λ spot. tier.mark_at (λ set. has set spot) place item) begun found so_far one
      (λ spot.
      let at : S → Bool = λ set. has set spot in
      step_at (has left spot) (has (tier.set_of item) spot) (has hit spot) (has left' spot) (tier.mark_at at place item) (tier.mark_from at (place + 1) (drop (place + 1) items))
      (tier.mark_from at place (drop place items)) (is_hit spot) (is_left spot)
      (ap (tier.mark_from at place) (drop-item items place item inside read) ∙ tier.first_decides at place item (drop (place + 1) items)))

  -- after the last item, where the end of the walk decides the spots that are left
  pub carved_all : (Last Whole : Mark → Type 0) (place : ℕ) → ((m : Mark) → Kind m → Whole m) → ((m : Mark) → Last m → Whole m × (tier.place_of m ≡ None)) → (left : S) (begun last : List (Marked S)) →
      length items ≤ place → IsCarvedUpTo place left begun → IsCarving has IsWell (has left) (λ spot. tier.mark_from (λ set. has set spot) place []) Last last →
      IsCarving has IsWell within (λ spot. tier.mark_from (λ set. has set spot) 0 items) Whole (begun ++ last)
  carved_all Last Whole place is_whole is_last left begun last past so_far one =
      IsBegun-end has IsWell within (λ spot. tier.mark_from (λ set. has set spot) 0 items) (has left) (λ spot. tier.mark_from (λ set. has set spot) place (drop place items))
      (λ spot. tier.mark_from (λ set. has set spot) place []) (λ mark. Kind mark × IsBelow (tier.place_of mark) place) Last Whole
      (λ m earlier. is_whole m earlier.0)
      (λ m new. (is_last m new).0)
      (λ a b earlier new. apart_at_end tier.place_of place a b earlier.1 (is_last b new).1)
      begun last so_far one
      (λ spot. ap (tier.mark_from (λ set. has set spot) place) (sym (drop_all place items past)))
