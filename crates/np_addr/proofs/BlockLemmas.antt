-- Blocks of addresses. For `block_set`, `blocks_set` and 3 more.
use Rattle.std.proofs.Common.{◌≡◌, ℕ, Bool, false, not, ◌&&◌, ◌||◌, nat_le, nat_lt, min, List, [], ◌∷◌, ◌++◌, take, length, get_or, ◌+◌, ◌-◌, ◌*◌, ◌/◌, ◌%◌, ◌^◌, ◌<◌, ◌≤◌, bit_and, sym, ap, ◌∙◌, one-mul, arith}
use Rattle.std.proofs.Math.Nat.{mul-mod_left, mul-le-mul_right, add-mul}
use Rattle.std.proofs.lemmas.Nat.{pow_pos, shr_below, shr_split, pow-add}
use Rattle.std.proofs.lemmas.Nat.Bits.{and_high_mask}
use Rattle.std.proofs.lemmas.List.{take_all}
use Rattle.std.proofs.lemmas.List.Folds.{list_any-append, list_any_more}
use Rattle.std.proofs.lemmas.Bool.Decides.{nat_tests}
use Rattle.std.specs.List.{list_any}
use Rattle.std.proofs.Math.Bool.{or-false}
use Rattle.np_base.specs.Beside.{by_side}
use Rattle.np_base.specs.Ranges.{holds}
use Rattle.np_addr.specs.Prelude.{Address, AddressRanges, Cidr, Four, Range, Six, block_has, cidr_has, cleared, set_has}
use Rattle.np_base.specs.declared.beside.Which.{Which}
use Rattle.np_base.specs.declared.beside.Which.TheVariants.{First, Second}
use Rattle.np_addr.specs.declared.cidr.Cidr.TheVariants as cidr

-- low is the greatest number of so many bits
pub cleared-mask : (bits n low : ℕ) → bits ≤ 128 → n < 2 ^ 128 → low + 1 ≡ 2 ^ bits → bit_and n (2 ^ 128 - 1 - low) ≡ cleared bits n
cleared-mask bits n low within fits is =
    let mask : 2 ^ 128 - 1 - low ≡ 2 ^ 128 - 2 ^ bits = omega arith in
    ap (bit_and n) mask ∙ and_high_mask 128 bits within n fits

pub rest_of_cleared : (bits n : ℕ) → cleared bits n % 2 ^ bits ≡ 0
rest_of_cleared bits n = mul-mod_left _ _

-- a block ends where its family does, or before
pub block_end : (width len n : ℕ) → len ≤ width → n % 2 ^ (width - len) ≡ 0 → n < 2 ^ width → n + 2 ^ (width - len) ≤ 2 ^ width
block_end width len n within rest fits =
    let free = width - len in
    let all : 2 ^ len * 2 ^ free ≡ 2 ^ width = sym (pow-add 2 len free) ∙ ap {A = ℕ} (λ k. 2 ^ k) {x = len + free} {y = width} (omega arith) in
    let below : n / 2 ^ free < 2 ^ len = shr_below n len free (omega (arith, fits, pow-add 2 len free, all)) in
    let next : (n / 2 ^ free + 1) * 2 ^ free ≤ 2 ^ len * 2 ^ free = mul-le-mul_right (2 ^ free) (omega arith) in
    let parts : (n / 2 ^ free + 1) * 2 ^ free ≡ n / 2 ^ free * 2 ^ free + 2 ^ free = add-mul (n / 2 ^ free) 1 (2 ^ free) ∙ ap (λ k. n / 2 ^ free * 2 ^ free + k) (one-mul (2 ^ free)) in
    omega (arith, next, parts, all, rest, shr_split n free)

-- one set more at the end has its addresses more
list_any-push : {X : Type 0} (test : X → Bool) (xs : List X) (x : X) → list_any test (xs ++ x ∷ []) ≡ (list_any test xs || test x)
list_any-push test xs x = list_any-append test xs (x ∷ []) ∙ ap (λ t. list_any test xs || t) (or-false (test x))

-- the sets of one block more
pub one_more : (blocks : List Cidr) (i : ℕ) (block : Cidr) (sets : List AddressRanges) (more : AddressRanges) (made : List AddressRanges) → i < length blocks → block ≡ get_or blocks i block →
    made ≡ sets ++ more ∷ [] → ((address : Address) → list_any (λ set. set_has set address) sets ≡ list_any (λ b. cidr_has b address) (take i blocks)) →
    ((address : Address) → set_has more address ≡ cidr_has block address) → (address : Address) → list_any (λ set. set_has set address) made ≡ list_any (λ b. cidr_has b address) (take (i + 1) blocks)
one_more blocks i block sets more made within is adds so_far part address =
    let in_set : AddressRanges → Bool = λ set. set_has set address in
    let in_block : Cidr → Bool = λ b. cidr_has b address in
    ap (list_any in_set) adds
    ∙ list_any-push in_set sets more
    ∙ ap (λ t. t || in_set more) (so_far address)
    ∙ ap (λ t. list_any in_block (take i blocks) || t) (part address ∙ ap in_block is)
    ∙ sym (list_any_more in_block blocks i block within)

-- the spots of both families
abbrev pub ranges_have : AddressRanges → Which ℕ ℕ → Bool
ranges_have set = by_side (λ n. holds (λ a. a) set.first n) (λ n. holds (λ a. a) set.second n)

-- the sets of all blocks, joined
pub set_has-join_all : (blocks : List Cidr) (i : ℕ) (sets : List AddressRanges) (made : AddressRanges) → length blocks ≤ i →
    ((address : Address) → list_any (λ set. set_has set address) sets ≡ list_any (λ b. cidr_has b address) (take i blocks)) →
    ((spot : Which ℕ ℕ) → ranges_have made spot ≡ list_any (λ set. ranges_have set spot) sets) → (address : Address) → set_has made address ≡ list_any (λ b. cidr_has b address) blocks
set_has-join_all blocks i sets made past all_of joined (Four n) = joined (First n) ∙ all_of (Four n) ∙ ap (list_any (λ b. cidr_has b (Four n))) (take_all i blocks past)
set_has-join_all blocks i sets made past all_of joined (Six n) = joined (Second n) ∙ all_of (Six n) ∙ ap (list_any (λ b. cidr_has b (Six n))) (take_all i blocks past)

-- the block without its holes
pub set_has-minus : (block : Cidr) (excepts : List Cidr) (whole holes made : AddressRanges) → ((address : Address) → set_has whole address ≡ cidr_has block address) →
    ((address : Address) → set_has holes address ≡ list_any (λ except. cidr_has except address) excepts) →
    ((spot : Which ℕ ℕ) → ranges_have made spot ≡ (ranges_have whole spot && not (ranges_have holes spot))) → (address : Address) → set_has made address ≡ block_has block excepts address
set_has-minus block excepts whole holes made of_block of_excepts minus (Four n) = rw (minus (First n), of_block (Four n), of_excepts (Four n))
set_has-minus block excepts whole holes made of_block of_excepts minus (Six n) = rw (minus (Second n), of_block (Six n), of_excepts (Six n))

-- a range that ends one before the end of the block holds the block's numbers
same_end : (base last n size : ℕ) → last + 1 ≡ base + size → nat_le n last ≡ nat_lt n (base + size)
same_end base last n size ends = grind (arith, nat_tests)

-- the ranges of a block of IPv4 addresses
pub four_has : (base last len : ℕ) (first second : List (Range ℕ)) → last + 1 ≡ base + 2 ^ (32 - len) → ((n : ℕ) → holds (λ a. a) first n ≡ (nat_le base n && nat_le n last)) →
    ((n : ℕ) → holds (λ a. a) second n ≡ false) → (address : Address) → set_has (record { first = first; second = second }) address ≡ cidr_has (cidr.Four base len) address
four_has base last len first second ends members none (Four n) = members n ∙ ap (λ t. nat_le base n && t) (same_end base last n _ ends)
four_has base last len first second ends members none (Six n) = none n

-- the ranges of a block of IPv6 addresses
pub six_has : (base last len : ℕ) (first second : List (Range ℕ)) → last + 1 ≡ base + 2 ^ (128 - len) → ((n : ℕ) → holds (λ a. a) first n ≡ false) →
    ((n : ℕ) → holds (λ a. a) second n ≡ (nat_le base n && nat_le n last)) → (address : Address) → set_has (record { first = first; second = second }) address ≡ cidr_has (cidr.Six base len) address
six_has base last len first second ends none members (Four n) = none n
six_has base last len first second ends none members (Six n) = members n ∙ ap (λ t. nat_le base n && t) (same_end base last n _ ends)

-- the last number of a well-formed block
pub block_last : (width len base last : ℕ) → len ≤ width → base % 2 ^ (width - len) ≡ 0 → base < 2 ^ width → last ≡ min (base + 2 ^ (width - len) - 1) (2 ^ width - 1) →
    last + 1 ≡ base + 2 ^ (width - len)
block_last width len base last within rest fits is = omega (arith, block_end width len base within rest fits, pow_pos (width - len), is)
