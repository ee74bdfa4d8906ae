-- Which pods policies speak of, by the places of these among all.
use Rattle.std.specs.Prelude.{ℕ, ◌≡◌, ◌≤◌, ◌+◌, ◌-◌, List, Bool, false, All, Some, length, nat_lt, slice_get, if◌then◌else◌}
use Rattle.std.specs.List.{list_any}
use Rattle.np_reach.specs.Reach.{has_place}
use Rattle.np_reach.specs.Types.{Marks}

-- whether the marks of a stretch say so of the pod at a place
abbrev pub marks_at : Marks → ℕ → Bool
marks_at marks place = if nat_lt place marks.from then false else has_place marks.pods (place - marks.from)

-- whether some of them do
abbrev pub speaks_at : List Marks → ℕ → Bool
speaks_at far place = list_any (λ marks. marks_at marks place) far

-- they are of so many pods
abbrev pub AreWithin : ℕ → List Marks → Type 0
AreWithin count far = All (λ marks. marks.from + length marks.pods ≤ count) far

-- they say of each of the pods what is to be said of it
pub record IsSpoken {X : Type 0} (speaks : X → Bool) (pods : List X) (far : List Marks) : Type 0 where
  pub within : AreWithin (length pods) far
  pub say : (place : ℕ) (x : X) → slice_get pods place ≡ Some x → speaks_at far place ≡ speaks x
