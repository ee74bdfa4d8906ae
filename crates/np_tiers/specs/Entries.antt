-- Lists of marked sets, as the parts of a carving give them.
use Rattle.std.specs.Prelude.{◌≡◌, ◌≢◌, Bool, true, ℕ, Option, Some, if◌then◌else◌, List, [], ◌∷◌, All, AllPairs}
use Rattle.np_tiers.specs.Marks.{marks_at}
use Rattle.np_tiers.specs.Types.{Admin, Base, Free, Isolated, Mark, Marked, Net}

-- the place of the admin part that decides or passes, if the walk met one
abbrev pub admin_place : Mark → Option ℕ
admin_place (Admin place) = Some place
admin_place (Net pass place) = pass
admin_place (Isolated pass) = pass
admin_place (Base pass place) = pass
admin_place (Free pass) = pass

-- the mark alone, or no mark
abbrev pub mark_if : Bool → Mark → List Mark
mark_if decides mark = if decides then mark ∷ [] else []

-- The marks of the entries are distinct and all of a kind. No set is empty.
pub record AreEntries {S Spot : Type 0} (has : S → Spot → Bool) (IsWell : S → Type 0) (IsOfKind : Mark → Type 0) (entries : List (Marked S)) : Type 0 where
  pub distinct : AllPairs (λ a b. a.mark ≢ b.mark) entries
  pub of_kind : All (λ entry. IsOfKind entry.mark) entries
  pub well : All (λ entry. IsWell entry.set) entries
  pub some_spot : All (λ entry. (spot : Spot) × (has entry.set spot ≡ true)) entries

-- The entries carve the spots that pass `within`: each is in one of them, whose mark is the spot's.
pub record IsCarving {S Spot : Type 0} (has : S → Spot → Bool) (IsWell : S → Type 0) (within : Spot → Bool) (mark_at : Spot → Mark) (IsOfKind : Mark → Type 0) (made : List (Marked S)) : Type 0 where
  pub marks : (spot : Spot) → marks_at (λ set. has set spot) made ≡ mark_if (within spot) (mark_at spot)
  pub entries : AreEntries has IsWell IsOfKind made
