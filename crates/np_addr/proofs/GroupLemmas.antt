-- Groups of 16 bits, and the number that they make. For `Groups::filled`, `Groups::push` and `Groups::whole`.
use Rattle.std.proofs.Common.{◌≡◌, ℕ, zero, suc, ◌+◌, ◌-◌, ◌*◌, ◌/◌, ◌%◌, ◌^◌, ◌<◌, ◌≤◌, [], ◌∷◌, ◌++◌, length, replicate, Some, None, refl, sym, ap, ap₂, ◌∙◌, add-zero, add-one, one-mul, lit≤, arith}
use Rattle.std.proofs.Math.Nat.{mul-le-mul_right, pow-le-pow_right, mul_assoc, add-mul, mod-eq_of_lt}
use Rattle.std.proofs.lemmas.Bool.{ne_eqb, le-ltb, lt-ltb, le-leb}
use Rattle.std.proofs.lemmas.List.{length_push}
use Rattle.std.proofs.lemmas.Nat.{pow-add, shr-shr, shr_high, mod-pow-add}
use Rattle.std.proofs.lemmas.Int.Digits.{number_after_append}
use Rattle.std.specs.Int.Digits.{number_from_digits, number_from_digits_after}
use Rattle.np_addr.specs.Prelude.{at_most_eight, filled_of, group_at, low_groups, number_of_groups}

pub length-low_groups : (count n : ℕ) → length (low_groups count n) ≡ count
length-low_groups zero n = refl
length-low_groups (suc below) n = ap suc (length-low_groups below n)

-- how many numbers one group more makes of them
pow_group : (below : ℕ) → 2 ^ (16 * suc below) ≡ 65536 * 2 ^ (16 * below)
pow_group below = ap (λ bits. 2 ^ bits) (omega arith) ∙ pow-add 2 16 (16 * below)

group_at-push : (n group below : ℕ) → group < 65536 → group_at (n * 65536 + group) (suc below) ≡ group_at n below
group_at-push n group below fits =
    let whole = n * 65536 + group in
    let cut : whole / 2 ^ (16 * suc below) ≡ n / 2 ^ (16 * below) = ap (λ bits. whole / 2 ^ bits) (omega arith) ∙ sym (shr-shr whole 16 (16 * below)) ∙ ap (λ high. high / 2 ^ (16 * below))
    (shr_high n 16 group fits) in
    ap (λ high. high % 2 ^ 16) cut

-- a group more at the low end
pub low_groups-push : (count n group : ℕ) → group < 65536 → low_groups (suc count) (n * 65536 + group) ≡ low_groups count n ++ group ∷ []
low_groups-push zero n group fits = ap (λ g. g ∷ []) (omega arith)
low_groups-push (suc below) n group fits =
    let first = group_at-push n group below fits in
    let rest = low_groups-push below n group fits in
    rw (first, rest)

-- one group more, with p numbers below it
raised : (high group p q low all : ℕ) → q ≡ 65536 * p → all ≡ group * p + low → (high * 65536 + group) * p + low ≡ high * q + all
raised high group p q low all more whole = rw (more, whole) (omega arith)

number_after-low_groups : (count high n : ℕ) → number_from_digits_after 65536 high (low_groups count n) ≡ high * 2 ^ (16 * count) + n % 2 ^ (16 * count)
number_after-low_groups zero high n = omega arith
number_after-low_groups (suc below) high n =
    let bits : 16 + 16 * below ≡ 16 * suc below = omega arith in
    let low : n % 2 ^ (16 * suc below) ≡ group_at n below * 2 ^ (16 * below) + n % 2 ^ (16 * below) = rw bits at (mod-pow-add n 16 (16 * below)) in
    number_after-low_groups below (high * 65536 + group_at n below) n
    ∙ raised high (group_at n below) (2 ^ (16 * below)) (2 ^ (16 * suc below)) (n % 2 ^ (16 * below)) (n % 2 ^ (16 * suc below)) (pow_group below) low

-- groups of a number make the number
pub number-low_groups : (count n : ℕ) → n < 2 ^ (16 * count) → number_from_digits 65536 (low_groups count n) ≡ n
number-low_groups count n fits = omega (arith, number_after-low_groups count 0 n, mod-eq_of_lt fits)

number_after-replicate : (zeros high : ℕ) → number_from_digits_after 65536 high (replicate zeros 0) ≡ high * 2 ^ (16 * zeros)
number_after-replicate zero high = omega arith
number_after-replicate (suc zeros) high =
    number_after-replicate zeros (high * 65536 + 0) ∙ sym (add-zero _)
    ∙ raised high 0 (2 ^ (16 * zeros)) (2 ^ (16 * suc zeros)) 0 0 (pow_group zeros) (omega arith) ∙ add-zero _

-- the number of a head, zero groups and a tail
pub number-filled : (head zeros tail m n : ℕ) → m < 2 ^ (16 * head) → n < 2 ^ (16 * tail) →
    number_from_digits 65536 (low_groups head m ++ replicate zeros 0 ++ low_groups tail n) ≡ m * 2 ^ (16 * (zeros + tail)) + n
number-filled head zeros tail m n head_fits tail_fits =
    let front = low_groups head m ++ replicate zeros 0 in
    let high : number_from_digits 65536 front ≡ m * 2 ^ (16 * zeros) =
    number_after_append 65536 0 (low_groups head m) (replicate zeros 0)
    ∙ ap (λ k. number_from_digits_after 65536 k (replicate zeros 0)) (number-low_groups head m head_fits)
    ∙ number_after-replicate zeros m in
    let bits : m * 2 ^ (16 * (zeros + tail)) ≡ m * 2 ^ (16 * zeros) * 2 ^ (16 * tail) =
    ap (λ k. m * 2 ^ k) (omega arith) ∙ ap (λ k. m * k) (pow-add 2 (16 * zeros) (16 * tail)) ∙ sym (mul_assoc m _ _) in
    number_after_append 65536 0 front (low_groups tail n) ∙ ap (λ k. number_from_digits_after 65536 k (low_groups tail n)) high
    ∙ number_after-low_groups tail (m * 2 ^ (16 * zeros)) n
    ∙ ap₂ ◌+◌ (sym bits) (mod-eq_of_lt tail_fits)

-- fewer than eight groups are no address
pub whole_of-fewer : (count n : ℕ) → (count ≡ 8 → ⊥) → number_of_groups (low_groups count n) ≡ None
whole_of-fewer count n fewer = rw (length-low_groups count n, ne_eqb count 8 fewer)

-- so many groups leave no room for a zero group
pub filled_of-full : (head tail m n : ℕ) → 8 ≤ head + tail → filled_of (low_groups head m) (low_groups tail n) ≡ None
filled_of-full head tail m n full = rw (length-low_groups head m, length-low_groups tail n, le-ltb (head + tail) 8 full)

-- fewer are the ends of an address
pub filled_of-room : (head tail m n : ℕ) → head + tail < 8 → m < 2 ^ (16 * head) → n < 2 ^ (16 * tail) → filled_of (low_groups head m) (low_groups tail n) ≡ Some (m * 2 ^ (16 * (8 - head)) + n)
filled_of-room head tail m n room head_fits tail_fits =
    let bits : 8 - head - tail + tail ≡ 8 - head = omega arith in
    let value = rw bits at (number-filled head (8 - head - tail) tail m n head_fits tail_fits) in
    rw (length-low_groups head m, length-low_groups tail n, lt-ltb (head + tail) 8 room, value)

-- a head above a tail is a number of 128 bits
pub filled_fits : (head tail m n : ℕ) → head + tail < 8 → m < 2 ^ (16 * head) → n < 2 ^ (16 * tail) → m * 2 ^ (16 * (8 - head)) + n < 2 ^ 128
filled_fits head tail m n room head_fits tail_fits =
    let above = 2 ^ (16 * (8 - head)) in
    let bits : 16 * head + 16 * (8 - head) ≡ 128 = omega arith in
    let all : 2 ^ (16 * head) * above ≡ 2 ^ 128 = sym (pow-add 2 (16 * head) (16 * (8 - head))) ∙ ap (λ k. 2 ^ k) bits in
    let tail_below : 2 ^ (16 * tail) ≤ above = pow-le-pow_right (lit≤ tt) (omega arith) in
    let head_below : (m + 1) * above ≤ 2 ^ (16 * head) * above = mul-le-mul_right above (omega arith) in
    let next : (m + 1) * above ≡ m * above + above = add-mul m 1 above ∙ ap (λ k. m * above + k) (one-mul above) in
    omega (arith, tail_fits, tail_below, head_below, next, all)

-- where there is room, one group more is a number of so many bits more
pub push_fits : (count n group : ℕ) → n < 2 ^ (16 * count) → group < 65536 → n * 65536 + group < 2 ^ (16 * (count + 1))
push_fits count n group fits small = rw add-one (omega (arith, pow_group count, fits))

pub push_fits_all : (count n group : ℕ) → count < 8 → n < 2 ^ (16 * count) → group < 65536 → n * 65536 + group < 2 ^ 128
push_fits_all count n group room fits small =
    let bits : 16 * (count + 1) ≤ 128 = omega arith in
    let most : 2 ^ (16 * (count + 1)) ≤ 2 ^ 128 = pow-le-pow_right (lit≤ tt) bits in
    omega (arith, push_fits count n group fits small, most)

pub at_most_eight-room : (count n group : ℕ) → count < 8 → group < 65536 → at_most_eight (Some (low_groups count n ++ group ∷ [])) ≡ Some (low_groups (count + 1) (n * 65536 + group))
at_most_eight-room count n group room small =
    let size : length (low_groups count n ++ group ∷ []) ≡ count + 1 = omega (arith, length_push (low_groups count n) group, length-low_groups count n) in
    rw (size, le-leb (count + 1) 8 (omega arith), add-one, low_groups-push count n group small)

-- with no groups in front the number is the tail's
pub filled_of-none : (head tail m n : ℕ) → head + tail < 8 → head ≡ 0 → m < 2 ^ (16 * head) → n < 2 ^ (16 * tail) → filled_of (low_groups head m) (low_groups tail n) ≡ Some n
filled_of-none head tail m n room none head_fits tail_fits =
    let nothing : m ≡ 0 = let empty : 16 * head ≡ 0 = omega arith in let one = rw empty at head_fits in omega arith in
    filled_of-room head tail m n room head_fits tail_fits ∙ ap (λ k. Some (k * 2 ^ (16 * (8 - head)) + n)) nothing ∙ ap Some (omega arith)
