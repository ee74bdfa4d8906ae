-- The words that the program is called with.
use Rattle.std.specs.Prelude.{◌≡◌, ◌⊎◌, ℕ, List, Option, Some, None, drop}
use Rattle.np_command.specs.declared.failure.Failure.{Failure}
use Rattle.np_command.specs.declared.failure.Failure.TheVariants.{NoMemory, Usage}

-- these are the words of a call, the name of the program first, where it tells them
abbrev pub AreTheWords : Option (List (List ℕ)) → List (List ℕ) → Type 0
AreTheWords None words = Unit {0}
AreTheWords (Some told) words = words ≡ told

-- these are those behind the name
abbrev pub AreBehindTheName : Option (List (List ℕ)) → List (List ℕ) → Type 0
AreBehindTheName None words = Unit {0}
AreBehindTheName (Some told) words = words ≡ drop 1 told

-- why there are no words
abbrev pub IsNoText : Failure → Type 0
IsNoText failure = (failure ≡ Usage) ⊎ (failure ≡ NoMemory)
