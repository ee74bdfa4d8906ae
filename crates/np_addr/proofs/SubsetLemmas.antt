-- Blocks by their first bits, and blocks in one another. For `block_is_first_bits` and `strict_part_is_strict_subset`.
use Rattle.std.proofs.Common.{◌≡◌, ◌↔◌, ℕ, ◌+◌, ◌-◌, ◌*◌, ◌/◌, ◌%◌, ◌^◌, ◌<◌, ◌≤◌, true, false, nat_lt, sym, ap, ◌∙◌, inl, inr, one-mul, arith, lit≤}
use Rattle.std.proofs.Math.Nat.{mul_assoc, add-mul, mul-le-mul_right, pow-le-pow_right, div-lt_iff_lt-mul, div-eq_of_lt-le}
use Rattle.std.proofs.lemmas.Bool.{and_parts, and_from, and_left, and_right, cases_lt, leb-true, ltb-true, le-leb, lt-ltb, lt-leb, le-ltb, both_ways, false≢true}
use Rattle.std.proofs.lemmas.Nat.{pow_pos, shr_split, mod_below, pow_below, pow-add}
use Rattle.np_addr.specs.Prelude.{Address, Cidr, IsCidr, IsStrictSubset, SharesFirstBits, cidr_has, is_covered, is_strict_part}
use Rattle.np_addr.specs.declared.address.Address.TheVariants as address
use Rattle.np_addr.specs.declared.cidr.Cidr.TheVariants as cidr

pub in_block-parts : (base free n : ℕ) → is_covered base free n ≡ true → (base ≤ n) × (n < base + 2 ^ free)
in_block-parts base free n held = let parts = and_parts _ _ held in (leb-true base n parts.0, ltb-true n (base + 2 ^ free) parts.1)

pub in_block-from : (base free n : ℕ) → base ≤ n → n < base + 2 ^ free → is_covered base free n ≡ true
in_block-from base free n above below = and_from _ _ (le-leb base n above) (lt-ltb n (base + 2 ^ free) below)

in_block-out : (base free n : ℕ) → (base ≤ n → n < base + 2 ^ free → ⊥) → is_covered base free n ≡ false
in_block-out base free n out =
    elim (cases_lt n base) [
      | inl before ↦ and_left _ _ (lt-leb base n before)
      | inr from ↦ elim (cases_lt n (base + 2 ^ free)) [
        | inl inside ↦ absurd (out from inside)
        | inr past ↦ and_right _ _ (le-ltb n (base + 2 ^ free) past)
      ]
    ]

-- q * p with p numbers from there on
quotient_in : (n p q : ℕ) → q * p ≤ n → n < q * p + p → n / p ≡ q
quotient_in n p q above below =
    let next : (q + 1) * p ≡ q * p + p = add-mul q 1 p ∙ ap (λ k. q * p + k) (one-mul p) in
    div-eq_of_lt-le p above (omega (arith, below, next))

first_bits-in : (base free n : ℕ) → base % 2 ^ free ≡ 0 → is_covered base free n ≡ true → n / 2 ^ free ≡ base / 2 ^ free
first_bits-in base free n rest held =
    let (above, below) = in_block-parts base free n held in
    let whole = shr_split base free in
    quotient_in n (2 ^ free) (base / 2 ^ free) (omega arith) (omega arith)

first_bits-from : (base free n : ℕ) → base % 2 ^ free ≡ 0 → n / 2 ^ free ≡ base / 2 ^ free → is_covered base free n ≡ true
first_bits-from base free n rest same =
    let whole = shr_split base free in
    let parts = shr_split n free in
    let equal : n / 2 ^ free * 2 ^ free ≡ base / 2 ^ free * 2 ^ free = ap (λ q. q * 2 ^ free) same in
    let low = mod_below n (2 ^ free) (pow_pos free) in
    in_block-from base free n (omega arith) (omega arith)

pub first_bits : (block : Cidr) (a : Address) → IsCidr block → (cidr_has block a ≡ true) ↔ SharesFirstBits block a
first_bits (cidr.Four base len) (address.Four n) well = (first_bits-in base (32 - len) n well.1, first_bits-from base (32 - len) n well.1)
first_bits (cidr.Six base len) (address.Six n) well = (first_bits-in base (128 - len) n well.1, first_bits-from base (128 - len) n well.1)
first_bits (cidr.Four base len) (address.Six n) well = (λ held. absurd (false≢true held), λ shares. absurd shares)
first_bits (cidr.Six base len) (address.Four n) well = (λ held. absurd (false≢true held), λ shares. absurd shares)

-- a block that begins in a greater one ends in it
pub ends_within : (base free inner fewer : ℕ) → base % 2 ^ free ≡ 0 → inner % 2 ^ fewer ≡ 0 → fewer ≤ free → inner < base + 2 ^ free → inner + 2 ^ fewer ≤ base + 2 ^ free
ends_within base free inner fewer rest inner_rest less begins =
    let p = 2 ^ fewer in
    let times = 2 ^ (free - fewer) in
    let great : 2 ^ free ≡ times * p = ap {A = ℕ} (λ k. 2 ^ k) {x = free} {y = free - fewer + fewer} (omega arith) ∙ pow-add 2 (free - fewer) fewer in
    let base_parts : base ≡ base / 2 ^ free * times * p = omega (arith, shr_split base free) ∙ ap (λ k. base / 2 ^ free * k) great ∙ sym (mul_assoc (base / 2 ^ free) times p) in
    let end : base + 2 ^ free ≡ (base / 2 ^ free * times + times) * p = omega (arith, base_parts, great, add-mul (base / 2 ^ free * times) times p) in
    let inner_parts : inner ≡ inner / p * p = omega (arith, shr_split inner fewer) in
    let first : inner / p < base / 2 ^ free * times + times = (div-lt_iff_lt-mul (pow_pos fewer)).1 (omega (arith, begins, end)) in
    let step : (inner / p + 1) * p ≤ (base / 2 ^ free * times + times) * p = mul-le-mul_right p (omega (arith, first)) in
    let next : (inner / p + 1) * p ≡ inner / p * p + p = add-mul (inner / p) 1 p ∙ ap (λ k. inner / p * p + k) (one-mul p) in
    omega (arith, step, next, end, inner_parts)

-- a part of a block with fewer free bits has only numbers of the block
part_within : (base free inner fewer : ℕ) → base % 2 ^ free ≡ 0 → inner % 2 ^ fewer ≡ 0 → fewer < free → is_covered base free inner ≡ true → (n : ℕ) → is_covered inner fewer n ≡ true →
    is_covered base free n ≡ true
part_within base free inner fewer rest inner_rest less begins n held =
    let (above, below) = in_block-parts base free inner begins in
    let (from, to) = in_block-parts inner fewer n held in
    let end = ends_within base free inner fewer rest inner_rest (omega arith) below in
    in_block-from base free n (omega arith) (omega arith)

-- and not all of them
part_more : (base free inner fewer : ℕ) → fewer < free → is_covered base free inner ≡ true → (n : ℕ) × (is_covered base free n ≡ true) × (is_covered inner fewer n ≡ false)
part_more base free inner fewer less begins =
    let (above, below) = in_block-parts base free inner begins in
    let smaller : 2 ^ fewer < 2 ^ free = pow_below fewer free less in
    let some = pow_pos free in
    elim (cases_lt base inner) [
      | inl later ↦ (base, in_block-from base free base (omega arith) (omega arith), in_block-out inner fewer base (λ from to. omega arith))
      | inr first ↦ (base + 2 ^ fewer, in_block-from base free (base + 2 ^ fewer) (omega arith) (omega arith), in_block-out inner fewer (base + 2 ^ fewer) (λ from to. omega arith))
    ]

-- where each number of a block is in another, and there are more, it begins there and has fewer free bits
part_from : (base free inner fewer : ℕ) → ((n : ℕ) → is_covered inner fewer n ≡ true → is_covered base free n ≡ true) → (n : ℕ) → is_covered base free n ≡ true → is_covered inner fewer n ≡ false →
    (fewer < free) × (is_covered base free inner ≡ true)
part_from base free inner fewer within n held out =
    let some = pow_pos fewer in
    let begins = within inner (in_block-from inner fewer inner (omega arith) (omega arith)) in
    let last = within (inner + 2 ^ fewer - 1) (in_block-from inner fewer (inner + 2 ^ fewer - 1) (omega arith) (omega arith)) in
    let first = in_block-parts base free inner begins in
    let end = in_block-parts base free (inner + 2 ^ fewer - 1) last in
    let place = in_block-parts base free n held in
    elim (cases_lt fewer free) [
      | inl less ↦ (less, begins)
      | inr more ↦
          let great : 2 ^ free ≤ 2 ^ fewer = pow-le-pow_right (lit≤ tt) more in
          absurd (both_ways _ out (in_block-from inner fewer n (omega arith) (omega arith)))
    ]

at_four : (base len inner longer : ℕ) → IsStrictSubset (cidr.Four base len) (cidr.Four inner longer) → (a : Address) → cidr_has (cidr.Four base len) a ≡ true →
    cidr_has (cidr.Four inner longer) a ≡ false → (32 - longer < 32 - len) × (is_covered base (32 - len) inner ≡ true)
at_four base len inner longer subset (address.Four n) held out = part_from base (32 - len) inner (32 - longer) (λ m. subset.within (address.Four m)) n held out
at_four base len inner longer subset (address.Six n) held out = absurd (false≢true held)

at_six : (base len inner longer : ℕ) → IsStrictSubset (cidr.Six base len) (cidr.Six inner longer) → (a : Address) → cidr_has (cidr.Six base len) a ≡ true → cidr_has (cidr.Six inner longer) a ≡ false →
    (128 - longer < 128 - len) × (is_covered base (128 - len) inner ≡ true)
at_six base len inner longer subset (address.Six n) held out = part_from base (128 - len) inner (128 - longer) (λ m. subset.within (address.Six m)) n held out
at_six base len inner longer subset (address.Four n) held out = absurd (false≢true held)

within_four : (base len inner longer : ℕ) → ((n : ℕ) → is_covered inner (32 - longer) n ≡ true → is_covered base (32 - len) n ≡ true) → (a : Address) → cidr_has (cidr.Four inner longer) a ≡ true →
    cidr_has (cidr.Four base len) a ≡ true
within_four base len inner longer numbers (address.Four n) held = numbers n held
within_four base len inner longer numbers (address.Six n) held = held

within_six : (base len inner longer : ℕ) → ((n : ℕ) → is_covered inner (128 - longer) n ≡ true → is_covered base (128 - len) n ≡ true) → (a : Address) → cidr_has (cidr.Six inner longer) a ≡ true →
    cidr_has (cidr.Six base len) a ≡ true
within_six base len inner longer numbers (address.Six n) held = numbers n held
within_six base len inner longer numbers (address.Four n) held = held

strict_subset : (block except : Cidr) → IsCidr block → IsCidr except → is_strict_part block except ≡ true → IsStrictSubset block except
strict_subset (cidr.Four base len) (cidr.Four inner longer) well inner_well held =
    let (test, begins) = and_parts (nat_lt len longer) (is_covered base (32 - len) inner) held in
    let less : 32 - longer < 32 - len = omega (arith, ltb-true len longer test, well.0, inner_well.0) in
    let other = part_more base (32 - len) inner (32 - longer) less begins in
    record {
      within = within_four base len inner longer (part_within base (32 - len) inner (32 - longer) well.1 inner_well.1 less begins);
      more = (address.Four other.0, other.1, other.2);
    }
strict_subset (cidr.Six base len) (cidr.Six inner longer) well inner_well held =
    let (test, begins) = and_parts (nat_lt len longer) (is_covered base (128 - len) inner) held in
    let less : 128 - longer < 128 - len = omega (arith, ltb-true len longer test, well.0, inner_well.0) in
    let other = part_more base (128 - len) inner (128 - longer) less begins in
    record {
      within = within_six base len inner longer (part_within base (128 - len) inner (128 - longer) well.1 inner_well.1 less begins);
      more = (address.Six other.0, other.1, other.2);
    }
strict_subset (cidr.Four base len) (cidr.Six inner longer) well inner_well held = absurd (false≢true (and_parts (nat_lt len longer) false held).1)
strict_subset (cidr.Six base len) (cidr.Four inner longer) well inner_well held = absurd (false≢true (and_parts (nat_lt len longer) false held).1)

strict_part : (block except : Cidr) → IsStrictSubset block except → is_strict_part block except ≡ true
strict_part (cidr.Four base len) (cidr.Four inner longer) subset =
    let (less, begins) = at_four base len inner longer subset subset.more.0 subset.more.1 subset.more.2 in
    and_from _ _ (lt-ltb len longer (omega arith)) begins
strict_part (cidr.Six base len) (cidr.Six inner longer) subset =
    let (less, begins) = at_six base len inner longer subset subset.more.0 subset.more.1 subset.more.2 in
    and_from _ _ (lt-ltb len longer (omega arith)) begins
strict_part (cidr.Four base len) (cidr.Six inner longer) subset =
    let some = pow_pos (128 - longer) in
    absurd (false≢true (subset.within (address.Six inner) (in_block-from inner (128 - longer) inner (omega arith) (omega arith))))
strict_part (cidr.Six base len) (cidr.Four inner longer) subset =
    let some = pow_pos (32 - longer) in
    absurd (false≢true (subset.within (address.Four inner) (in_block-from inner (32 - longer) inner (omega arith) (omega arith))))

pub strict_part_subset : (block except : Cidr) → IsCidr block → IsCidr except → (is_strict_part block except ≡ true) ↔ IsStrictSubset block except
strict_part_subset block except well inner_well = (strict_subset block except well inner_well, strict_part block except)
