-- Ranges as sets, and their blocks. For `no_points` and `set_of`.
use Rattle.std.proofs.Common.{◌≡◌, ℕ, zero, suc, ◌+◌, ◌^◌, ◌<◌, List, [], ◌∷◌, true, false, nat_le, refl, sym, ◌∙◌, append-nil, arith, if◌then◌else◌}
use Rattle.std.proofs.lemmas.Bool.{and_parts, both_ways, false_from_ne_true, leb-false, leb-true, or_left}
use Rattle.std.proofs.lemmas.Nat.{pow_pos}
use Rattle.std.specs.List.{flat_map}
use Rattle.np_addr.specs.Prelude.{AddressRanges, blocks_in, is_inside, prefixes_of, range_prefixes, width_of}
use Rattle.np_report.specs.Prelude.{Family, Four, Range, Six}
use Rattle.np_base.proofs.Ranges.{is_within-inside}
use Rattle.np_base.specs.Ranges.{IsAscending, holds}

-- ranges that hold no number are none
pub none_held : {P : Type 0} (number_of : P → ℕ) (from last : ℕ) (ranges : List (Range P)) → IsAscending number_of from last ranges → ((p : P) → holds number_of ranges (number_of p) ≡ false) →
    ranges ≡ []
none_held number_of from last [] ascends none = refl
none_held number_of from last (range ∷ ranges) ascends none =
    absurd (both_ways _ (none range.lo) (or_left _ _ (is_within-inside number_of range (number_of range.lo) (omega arith) ascends.1)))

-- ---- blocks

-- no block is in a range that ends before it begins
not_inside : (range : Range ℕ) (base free : ℕ) → range.hi < range.lo → is_inside range base free ≡ false
not_inside range base free empty =
    false_from_ne_true (is_inside range base free) (λ inside.
    let parts = and_parts (nat_le range.lo base) (nat_le (base + 2 ^ free) (range.hi + 1)) inside in
    omega (arith, leb-true range.lo base parts.0, leb-true (base + 2 ^ free) (range.hi + 1) parts.1, pow_pos free))

-- it has none
no_blocks : (family : Family) (range : Range ℕ) (base free : ℕ) → range.hi < range.lo → blocks_in family range base free ≡ []
unfolding blocks_in
no_blocks family range base zero empty = rw (not_inside range base zero empty) refl
no_blocks family range base (suc half) empty =
    rw (not_inside range base (suc half) empty, no_blocks family range base half empty, no_blocks family range (base + 2 ^ half) half empty) refl

-- the blocks of a range, where it is a range of a set
blocks_of_range : (family : Family) (range : Range ℕ) → flat_map (λ one. range_prefixes family one) (if nat_le range.lo range.hi then range ∷ [] else []) ≡ range_prefixes family range
blocks_of_range family range =
    elim (nat_le range.lo range.hi) as (λ is. nat_le range.lo range.hi ≡ is → flat_map (λ one. range_prefixes family one) (if is then range ∷ [] else []) ≡ range_prefixes family range) [
      | true ↦ λ is. append-nil (range_prefixes family range)
      | false ↦ λ is. sym (no_blocks family range 0 (width_of family) (leb-false range.lo range.hi is))
    ] refl

-- the blocks of a set of one range of the first family, or of the second
pub blocks_of_four : (range : Range ℕ) (set : AddressRanges) → set.first ≡ (if nat_le range.lo range.hi then range ∷ [] else []) → set.second ≡ [] → prefixes_of set ≡ range_prefixes Four range
blocks_of_four range set first second = rw (first, second) (append-nil _ ∙ blocks_of_range Four range)

pub blocks_of_six : (range : Range ℕ) (set : AddressRanges) → set.first ≡ [] → set.second ≡ (if nat_le range.lo range.hi then range ∷ [] else []) → prefixes_of set ≡ range_prefixes Six range
blocks_of_six range set first second = rw (first, second) (blocks_of_range Six range)
