-- When two numbers of a count agree in sets between numbers, and in what each number has alone.
use Rattle.std.specs.Prelude.{◌≡◌, ◌≢◌, ℕ, ◌<◌, Bool, true}

-- What a third number has with them is the same, what they have with each other and each with itself, where it is
-- defined, and what each has alone.
pub record Agree {C R : Type 0} (count : ℕ) (defined : ℕ → ℕ → Bool) (set : ℕ → ℕ → C) (own : ℕ → R) (a b : ℕ) : Type 0 where
  pub sends : (c : ℕ) → c < count → c ≢ a → c ≢ b → set a c ≡ set b c
  pub receives : (c : ℕ) → c < count → c ≢ a → c ≢ b → set c a ≡ set c b
  pub both_ways : set a b ≡ set b a
  pub first : defined a a ≡ true → set a a ≡ set a b
  pub second : defined b b ≡ true → set b b ≡ set a b
  pub alone : own a ≡ own b
