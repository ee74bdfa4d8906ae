-- Blocks of a family by the numbers that they begin and end at. For RightPrefixes.
use Rattle.std.proofs.Common.{◌≡◌, ℕ, ◌+◌, ◌-◌, ◌%◌, ◌^◌, ◌≤◌, false, ◌&&◌, nat_le, nat_lt, refl, ap, ◌∙◌, arith}
use Rattle.std.proofs.lemmas.Bool.{and_left, lt-leb, false≢true}
use Rattle.std.proofs.lemmas.Nat.{pow_pos}
use Rattle.np_addr.specs.Prelude.{Address, AreDisjoint, Cidr, Family, IsCidr, LiesIn, StandsBefore, block_at, cidr_has, is_covered, width_of}
use Rattle.np_addr.specs.declared.address.Address.TheVariants as address
use Rattle.np_addr.specs.declared.address.Family.TheVariants as family
use Rattle.np_addr.specs.declared.cidr.Cidr.TheVariants as cidr
use Rattle.np_addr.proofs.SubsetLemmas.{in_block-parts, in_block-from}

-- the address of a number
abbrev pub address_at : Family → ℕ → Address
address_at family.Four n = address.Four n
address_at family.Six n = address.Six n

-- a block of the family, of numbers from the first on and before the last
abbrev pub IsBetween : Family → ℕ → ℕ → Cidr → Type 0
IsBetween family.Four from to (cidr.Four base len) = (from ≤ base) × (base + 2 ^ (32 - len) ≤ to)
IsBetween family.Six from to (cidr.Six base len) = (from ≤ base) × (base + 2 ^ (128 - len) ≤ to)
IsBetween family.Four from to (cidr.Six base len) = ⊥
IsBetween family.Six from to (cidr.Four base len) = ⊥

-- a block of the family that has all numbers from the first on and before the last
abbrev pub Spans : Family → ℕ → ℕ → Cidr → Type 0
Spans family.Four from to (cidr.Four base len) = (base ≤ from) × (to ≤ base + 2 ^ (32 - len))
Spans family.Six from to (cidr.Six base len) = (base ≤ from) × (to ≤ base + 2 ^ (128 - len))
Spans family.Four from to (cidr.Six base len) = ⊥
Spans family.Six from to (cidr.Four base len) = ⊥

-- the first block ends before the second begins
abbrev pub EndsBefore : Cidr → Cidr → Type 0
EndsBefore (cidr.Four base len) (cidr.Four next longer) = base + 2 ^ (32 - len) ≤ next
EndsBefore (cidr.Six base len) (cidr.Six next longer) = base + 2 ^ (128 - len) ≤ next
EndsBefore (cidr.Four base len) (cidr.Six next longer) = Unit {0}
EndsBefore (cidr.Six base len) (cidr.Four next longer) = ⊥

size_of_free : (width free : ℕ) → free ≤ width → 2 ^ (width - (width - free)) ≡ 2 ^ free
size_of_free width free short = ap {A = ℕ} (λ k. 2 ^ k) {x = width - (width - free)} {y = free} (omega arith)

pub IsBetween-block_at : (family : Family) (base free from to : ℕ) → free ≤ width_of family → from ≤ base → base + 2 ^ free ≤ to → IsBetween family from to (block_at family base free)
IsBetween-block_at family.Four base free from to short above below = (above, omega (arith, size_of_free 32 free short))
IsBetween-block_at family.Six base free from to short above below = (above, omega (arith, size_of_free 128 free short))

pub Spans-block_at : (family : Family) (base free from to : ℕ) → free ≤ width_of family → base ≤ from → to ≤ base + 2 ^ free → Spans family from to (block_at family base free)
Spans-block_at family.Four base free from to short above below = (above, omega (arith, size_of_free 32 free short))
Spans-block_at family.Six base free from to short above below = (above, omega (arith, size_of_free 128 free short))

pub IsCidr-block_at : (family : Family) (base free : ℕ) → free ≤ width_of family → base % 2 ^ free ≡ 0 → IsCidr (block_at family base free)
IsCidr-block_at family.Four base free short aligned = (omega arith, ap (λ (size : ℕ). base % size) (size_of_free 32 free short) ∙ aligned)
IsCidr-block_at family.Six base free short aligned = (omega arith, ap (λ (size : ℕ). base % size) (size_of_free 128 free short) ∙ aligned)

pub has-block_at : (family : Family) (base free n : ℕ) → free ≤ width_of family → cidr_has (block_at family base free) (address_at family n) ≡ is_covered base free n
has-block_at family.Four base free n short = ap (λ (size : ℕ). nat_le base n && nat_lt n (base + size)) (size_of_free 32 free short)
has-block_at family.Six base free n short = ap (λ (size : ℕ). nat_le base n && nat_lt n (base + size)) (size_of_free 128 free short)

pub IsBetween-wider : (family : Family) (from to first last : ℕ) → first ≤ from → to ≤ last → (block : Cidr) → IsBetween family from to block → IsBetween family first last block
IsBetween-wider family.Four from to first last below above (cidr.Four base len) between = (omega arith, omega arith)
IsBetween-wider family.Six from to first last below above (cidr.Six base len) between = (omega arith, omega arith)
IsBetween-wider family.Four from to first last below above (cidr.Six base len) between = between
IsBetween-wider family.Six from to first last below above (cidr.Four base len) between = between

pub EndsBefore-between : (family : Family) (from to first last : ℕ) → to ≤ first → (block next : Cidr) → IsBetween family from to block → IsBetween family first last next → EndsBefore block next
EndsBefore-between family.Four from to first last apart (cidr.Four base len) (cidr.Four other longer) between later = omega arith
EndsBefore-between family.Six from to first last apart (cidr.Six base len) (cidr.Six other longer) between later = omega arith
EndsBefore-between family.Four from to first last apart (cidr.Four base len) (cidr.Six other longer) between later = absurd later
EndsBefore-between family.Six from to first last apart (cidr.Six base len) (cidr.Four other longer) between later = absurd later
EndsBefore-between family.Four from to first last apart (cidr.Six base len) next between later = absurd between
EndsBefore-between family.Six from to first last apart (cidr.Four base len) next between later = absurd between

pub EndsBefore-families : (from to first last : ℕ) (block next : Cidr) → IsBetween family.Four from to block → IsBetween family.Six first last next → EndsBefore block next
EndsBefore-families from to first last (cidr.Four base len) (cidr.Six other longer) between later = tt
EndsBefore-families from to first last (cidr.Four base len) (cidr.Four other longer) between later = absurd later
EndsBefore-families from to first last (cidr.Six base len) next between later = absurd between

-- no address of the other family
pub other_family_four : (from to n : ℕ) (block : Cidr) → IsBetween family.Four from to block → cidr_has block (address.Six n) ≡ false
other_family_four from to n (cidr.Four base len) between = refl
other_family_four from to n (cidr.Six base len) between = absurd between

pub other_family_six : (from to n : ℕ) (block : Cidr) → IsBetween family.Six from to block → cidr_has block (address.Four n) ≡ false
other_family_six from to n (cidr.Six base len) between = refl
other_family_six from to n (cidr.Four base len) between = absurd between

pub disjoint_by_ends : (block next : Cidr) → EndsBefore block next → AreDisjoint block next
disjoint_by_ends (cidr.Four base len) (cidr.Four other longer) ends (address.Four n) held =
    let below = (in_block-parts base (32 - len) n held).1 in
    and_left _ _ (lt-leb other n (omega arith))
disjoint_by_ends (cidr.Six base len) (cidr.Six other longer) ends (address.Six n) held =
    let below = (in_block-parts base (128 - len) n held).1 in
    and_left _ _ (lt-leb other n (omega arith))
disjoint_by_ends (cidr.Four base len) (cidr.Four other longer) ends (address.Six n) held = refl
disjoint_by_ends (cidr.Six base len) (cidr.Six other longer) ends (address.Four n) held = refl
disjoint_by_ends (cidr.Four base len) (cidr.Six other longer) ends (address.Four n) held = refl
disjoint_by_ends (cidr.Four base len) (cidr.Six other longer) ends (address.Six n) held = absurd (false≢true held)
disjoint_by_ends (cidr.Six base len) (cidr.Four other longer) ends a held = absurd ends

pub stands_by_ends : (block next : Cidr) → EndsBefore block next → StandsBefore block next
stands_by_ends (cidr.Four base len) (cidr.Four other longer) ends = omega (arith, pow_pos (32 - len))
stands_by_ends (cidr.Six base len) (cidr.Six other longer) ends = omega (arith, pow_pos (128 - len))
stands_by_ends (cidr.Four base len) (cidr.Six other longer) ends = tt
stands_by_ends (cidr.Six base len) (cidr.Four other longer) ends = ends

pub lies_four : (base len : ℕ) (block : Cidr) → Spans family.Four base (base + 2 ^ (32 - len)) block → LiesIn (cidr.Four base len) block
lies_four base len (cidr.Four first shorter) spans (address.Four n) held =
    let parts = in_block-parts base (32 - len) n held in
    in_block-from first (32 - shorter) n (omega arith) (omega arith)
lies_four base len (cidr.Four first shorter) spans (address.Six n) held = held
lies_four base len (cidr.Six first shorter) spans a held = absurd spans

pub lies_six : (base len : ℕ) (block : Cidr) → Spans family.Six base (base + 2 ^ (128 - len)) block → LiesIn (cidr.Six base len) block
lies_six base len (cidr.Six first shorter) spans (address.Six n) held =
    let parts = in_block-parts base (128 - len) n held in
    in_block-from first (128 - shorter) n (omega arith) (omega arith)
lies_six base len (cidr.Six first shorter) spans (address.Four n) held = held
lies_six base len (cidr.Four first shorter) spans a held = absurd spans
