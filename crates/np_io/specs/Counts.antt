-- Counts that stay at 2^64 - 1 once they are there.
use Rattle.std.specs.Prelude.{ℕ, ◌+◌, ◌-◌, ◌^◌, ◌<◌, ◌≤◌, ◌⊎◌, min, max}

-- the count rose, or stands at its end
abbrev pub Rose : ℕ → ℕ → Type 0
Rose old new = (old < new) ⊎ (2 ^ 64 ≤ new + 1)

-- the count did not fall, and did not pass its end
abbrev pub NeverFalls : ℕ → ℕ → Type 0
NeverFalls old new = (old ≤ new) × (new ≤ max old (2 ^ 64 - 1))

-- the count of bytes handed out after n more of them
abbrev pub handed_after : ℕ → ℕ → ℕ
handed_after old n = min (old + n) (2 ^ 64 - 1)

-- a count of faults after one more
abbrev pub raised : ℕ → ℕ
raised count = min (count + 1) (2 ^ 64 - 1)
