-- The least pair of a number and of the first of its group that differ, among some numbers.
use Rattle.std.specs.Prelude.{◌≡◌, ◌≢◌, ◌⊎◌, ℕ, ◌<◌, List, Bool, true, false, ◌&&◌, ◌||◌, ◌==◌, not, nat_lt, All, Option, Some, None, if◌then◌else◌}

-- whether two numbers stand before a pair: the first is less, or the same and the second is
abbrev pub stands_before : ℕ → ℕ → ℕ × ℕ → Bool
stands_before first number pair = nat_lt first pair.0 || (first == pair.0 && nat_lt number pair.1)

-- whether two numbers are two, and stand before the pair that was found
abbrev pub comes_before : ℕ → ℕ → Option (ℕ × ℕ) → Bool
comes_before first number None = not (first == number)
comes_before first number (Some pair) = not (first == number) && stands_before first number pair

-- the least pair, where these two numbers are looked at as well
abbrev pub with_number : (ℕ → ℕ → Bool) → ℕ → ℕ → Option (ℕ × ℕ) → Option (ℕ × ℕ)
with_number differ first number found = if comes_before first number found && differ first number then Some (first, number) else found

-- a number is the first of its group, or does not differ from it
abbrev pub IsLike : (ℕ → ℕ) → (ℕ → ℕ → Bool) → ℕ → Type 0
IsLike first differ number = (first number ≡ number) ⊎ (differ (first number) number ≡ false)

-- so it is, or with the first of its group it does not stand before a pair
abbrev pub IsNotBefore : (ℕ → ℕ) → (ℕ → ℕ → Bool) → ℕ × ℕ → ℕ → Type 0
IsNotBefore first differ pair number = IsLike first differ number ⊎ (stands_before (first number) number pair ≡ false)

-- the pair is of a number and of the first of its group, which is another, and they differ
pub record IsUnlike (count : ℕ) (first : ℕ → ℕ) (differ : ℕ → ℕ → Bool) (pair : ℕ × ℕ) : Type 0 where
  pub within : pair.1 < count
  pub of_group : first pair.1 ≡ pair.0
  pub apart : pair.0 ≢ pair.1
  pub differ_so : differ pair.0 pair.1 ≡ true

-- none of some numbers differs from the first of its group, or the pair is the least of those that do
abbrev pub IsLeast : ℕ → (ℕ → ℕ) → (ℕ → ℕ → Bool) → List ℕ → Option (ℕ × ℕ) → Type 0
IsLeast count first differ numbers None = All (IsLike first differ) numbers
IsLeast count first differ numbers (Some pair) = IsUnlike count first differ pair × All (IsNotBefore first differ pair) numbers
