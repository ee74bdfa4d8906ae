-- What a source tells of the bytes that its names hold and of the names that were begun, and what its failures say.
use Rattle.std.specs.Prelude.{◌≡◌, ◌⊎◌, ℕ, List, ◌++◌, Option, Some, None, IsSome}
use Rattle.std.specs.Option.{option_map}
use Rattle.np_io.specs.Counts.{Rose}

-- The source tells that the name holds these bytes, and it tells what is left of the begun name.
pub record IsTold (holds : List ℕ → Option (List ℕ)) (left : Option (List ℕ)) (name bytes : List ℕ) : Type 0 where
  pub holding : holds name ≡ Some bytes
  pub what_is_left : IsSome left

-- Whose count of faults a failed read raised: that of the begun name, and that of every name where it is untold
-- which one is begun. No read fails where it is told that no name is begun.
abbrev pub ReadFailed : Option (Option (List ℕ)) → (List ℕ → ℕ) → (List ℕ → ℕ) → Type 0
ReadFailed None old new = (name : List ℕ) → Rose (old name) (new name)
ReadFailed (Some None) old new = ⊥
ReadFailed (Some (Some name)) old new = Rose (old name) (new name)

-- These names were begun one after another, after those that were begun before; or it is no longer told which were.
abbrev pub BeganNext : Option (List (List ℕ)) → Option (List (List ℕ)) → List (List ℕ) → Type 0
BeganNext old new names = (new ≡ None) ⊎ (new ≡ option_map (λ before. before ++ names) old)
