-- The rules that are the first to match a spot.
use Rattle.std.specs.Prelude.{◌≡◌, ◌⊎◌, ℕ, List, [], ◌∷◌, Bool, true, false, Option, Some, None, if◌then◌else◌, find}
use Rattle.std.specs.Option.{option_map_or}
use Rattle.np_unused.specs.Types.{Action, AdminPart, Allow, Deny, Flags, Pass, RuleId, RuleSpots}
use Rattle.np_unused.specs.steps.Known.{flag_at, is_id}

-- ---- first rules

-- the first rule whose set has the spot; `at` tells which sets have it
abbrev pub first_rule : {S : Type 0} → (S → Bool) → List (RuleSpots S) → Option RuleId
first_rule at [] = None
first_rule at (one ∷ rules) = if at one.set.now then Some one.rule else first_rule at rules

-- the name of the first part that has the spot, where the parts are named place by place
abbrev pub first_at : {P : Type 0} → (P → Bool) → List P → List RuleId → Option RuleId
first_at at [] ids = None
first_at at (part ∷ parts) [] = None
first_at at (part ∷ parts) (id ∷ ids) = if at part then Some id else first_at at parts ids

-- whether a rule is the one that is named, by its policy and its place
abbrev pub names : Option RuleId → ℕ → ℕ → Bool
names named policy place = option_map_or (is_id policy place) named false

-- ---- admin rules

abbrev pub is_pass : Action → Bool
is_pass Allow = false
is_pass Deny = false
is_pass Pass = true

-- whether the admin parts leave the spot to the tiers below: by the first part that has it, or for want of one
abbrev pub hands_down : {S : Type 0} → (S → Bool) → List (AdminPart S) → Bool
hands_down at parts = option_map_or (λ part. is_pass part.action) (find (λ part. at part.set) parts) true

-- ---- flags

-- The flags that were set stay, and those are set of which the test says so at some spot.
pub record Notes {Spot : Type 0} (test : Spot → ℕ → ℕ → Bool) (old new : Flags) : Type 0 where
  pub grows : (policy place : ℕ) → flag_at old policy place ≡ true → flag_at new policy place ≡ true
  pub finds : (spot : Spot) (policy place : ℕ) → test spot policy place ≡ true → flag_at new policy place ≡ true
  pub only : (policy place : ℕ) → flag_at new policy place ≡ true → (flag_at old policy place ≡ true) ⊎ ((spot : Spot) × (test spot policy place ≡ true))
