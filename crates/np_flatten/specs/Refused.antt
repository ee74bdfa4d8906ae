-- What `flatten` refuses, packet by packet.
use Rattle.std.specs.Prelude.{ℕ, ◌≡◌, ◌≢◌, ◌⊎◌, ◌<◌, true}
use Rattle.std.specs.List.{Contains}
use Rattle.np_flatten.specs.Types.{Direction, EstateLists, Family, PortSpot}
use Rattle.np_conns.specs.Prelude.{is_spot}
use Rattle.np_model.specs.Prelude.{families_of}
use Rattle.np_fold.specs.Prelude.{folding_of}
use Rattle.np_flatten.specs.Faults.{family_of_list, is_defined}
use Rattle.np_table.specs.Prelude.{address_rows, estate_table}
use Rattle.np_kinds.specs.Prelude.{number_of_workloads, pair_allows}

-- a pair of numbers comes before another: by the first number, and then by the second
abbrev pub IsLexicallyBefore : ℕ → ℕ → ℕ → ℕ → Type 0
IsLexicallyBefore a b c d = (a < c) ⊎ ((a ≡ c) × (b < d))

-- in all families of the list the same packets pass from a workload to another
abbrev pub AreFamiliesAlike : EstateLists → ℕ → ℕ → Type 0
AreFamiliesAlike lists source destination =
    (family other : Family) (spot : PortSpot) → Contains (families_of lists.pods) family → Contains (families_of lists.pods) other → is_spot spot ≡ true
    → pair_allows lists (folding_of lists) source destination family spot ≡ pair_allows lists (folding_of lists) source destination other spot

-- the same packets pass between two workloads as between two others, in the first family of the list
abbrev pub PassTheSame : EstateLists → ℕ → ℕ → ℕ → ℕ → Type 0
PassTheSame lists a b c d =
    (spot : PortSpot) → is_spot spot ≡ true → pair_allows lists (folding_of lists) a b (family_of_list lists) spot ≡ pair_allows lists (folding_of lists) c d (family_of_list lists) spot

-- No packet tells two workloads apart: they may send the same to every third one, and receive the same of it; the same
-- passes from either to the other, and within each that has two pods; and they have the same rows with addresses.
pub record AreTreatedAlike (lists : EstateLists) (a b : ℕ) : Type 0 where
  pub sends : (third : ℕ) → third < number_of_workloads lists → third ≢ a → third ≢ b → PassTheSame lists a third b third
  pub receives : (third : ℕ) → third < number_of_workloads lists → third ≢ a → third ≢ b → PassTheSame lists third a third b
  pub both_ways : PassTheSame lists a b b a
  pub first : is_defined lists a a ≡ true → PassTheSame lists a a a b
  pub second : is_defined lists b b ≡ true → PassTheSame lists b b a b
  pub addresses : (direction : Direction) → address_rows (estate_table lists) a direction ≡ address_rows (estate_table lists) b direction
