-- The blocks of a range, as their definition goes. For `push_blocks` and crates above.
use Rattle.std.proofs.Common.{◌≡◌, ℕ, zero, suc, ◌+◌, ◌-◌, ◌*◌, ◌^◌, ◌<◌, ◌≤◌, ◌⊎◌, true, false, List, [], ◌∷◌, ◌++◌, refl, sym, ap, ◌∙◌, inl, inr, append-nil, append_assoc, arith, lit≤}
use Rattle.std.proofs.Math.Nat.{pow-suc}
use Rattle.std.proofs.lemmas.Bool.{and_parts, and_from, leb-true, le-leb, cond_both, cond-true, cond-false, false_from_ne_true, both_ways}
use Rattle.std.proofs.lemmas.Nat.{pow_pos}
use Rattle.np_addr.specs.Prelude.{Cidr, Family, Range, block_at, blocks_in, is_inside, prefixes_of, range_prefixes, width_of}
use Rattle.np_addr.specs.declared.address.Family.TheVariants as family

pub is_inside-from : (range : Range ℕ) (base free : ℕ) → range.lo ≤ base → base + 2 ^ free ≤ range.hi + 1 → is_inside range base free ≡ true
is_inside-from range base free above below = and_from _ _ (le-leb range.lo base above) (le-leb (base + 2 ^ free) (range.hi + 1) below)

pub is_inside-parts : (range : Range ℕ) (base free : ℕ) → is_inside range base free ≡ true → (range.lo ≤ base) × (base + 2 ^ free ≤ range.hi + 1)
is_inside-parts range base free inside =
    let parts = and_parts _ _ inside in
    (leb-true range.lo base parts.0, leb-true (base + 2 ^ free) (range.hi + 1) parts.1)

pub is_inside-not : (range : Range ℕ) (base free : ℕ) → (range.lo ≤ base → base + 2 ^ free ≤ range.hi + 1 → ⊥) → is_inside range base free ≡ false
is_inside-not range base free out =
    false_from_ne_true _ (λ inside. let parts = is_inside-parts range base free inside in out parts.0 parts.1)

-- a block that is all in the range
pub blocks_in-whole : (family : Family) (range : Range ℕ) (base free : ℕ) → is_inside range base free ≡ true → blocks_in family range base free ≡ block_at family base free ∷ []
unfolding blocks_in
blocks_in-whole family range base zero inside = cond-true (is_inside range base zero) (block_at family base zero ∷ []) [] inside
blocks_in-whole family range base (suc half) inside =
    cond-true (is_inside range base (suc half)) (block_at family base (suc half) ∷ []) (blocks_in family range base half ++ blocks_in family range (base + 2 ^ half) half) inside

-- a block that is partly in the range
pub blocks_in-cut : (family : Family) (range : Range ℕ) (base half : ℕ) → is_inside range base (suc half) ≡ false →
    blocks_in family range base (suc half) ≡ blocks_in family range base half ++ blocks_in family range (base + 2 ^ half) half
unfolding blocks_in
blocks_in-cut family range base half out =
    cond-false (is_inside range base (suc half)) (block_at family base (suc half) ∷ []) (blocks_in family range base half ++ blocks_in family range (base + 2 ^ half) half) out

-- a number that is not in the range
blocks_in-none : (family : Family) (range : Range ℕ) (base : ℕ) → is_inside range base zero ≡ false → blocks_in family range base zero ≡ []
unfolding blocks_in
blocks_in-none family range base out = cond-false (is_inside range base zero) (block_at family base zero ∷ []) [] out

-- a block that ends before the range, or begins behind it
pub blocks_in-outside : (family : Family) (range : Range ℕ) (base free : ℕ) → (range.hi < base) ⊎ (base + 2 ^ free ≤ range.lo) → blocks_in family range base free ≡ []
blocks_in-outside family range base zero apart =
    blocks_in-none family range base (is_inside-not range base zero (λ above below. omega arith))
blocks_in-outside family range base (suc half) apart =
    let some = pow_pos half in
    let halves = pow-suc 2 half in
    let first : (range.hi < base) ⊎ (base + 2 ^ half ≤ range.lo) = elim apart [ inl past ↦ inl past | inr before ↦ inr (omega arith) ] in
    let second : (range.hi < base + 2 ^ half) ⊎ (base + 2 ^ half + 2 ^ half ≤ range.lo) = elim apart [ inl past ↦ inl (omega arith) | inr before ↦ inr (omega arith) ] in
    blocks_in-cut family range base half (is_inside-not range base (suc half) (λ above below. omega arith))
    ∙ ap (λ (blocks : List Cidr). blocks ++ blocks_in family range (base + 2 ^ half) half) (blocks_in-outside family range base half first)
    ∙ blocks_in-outside family range (base + 2 ^ half) half second

-- a block that is not all in the range and not all out of it has halves
has_halves : (range : Range ℕ) (base free : ℕ) → is_inside range base free ≡ false → base ≤ range.hi → range.lo < base + 2 ^ free → 0 < free
has_halves range base zero out begins ends = absurd (both_ways _ out (is_inside-from range base zero (omega arith) (omega arith)))
has_halves range base (suc half) out begins ends = omega arith

-- What holds of a block that is in the range, of a number that is not, and of a block where it holds of its halves, holds of all.
pub blocks_in-by_halves : (family : Family) (range : Range ℕ) (P : ℕ → ℕ → List Cidr → Type 0) → ((base free : ℕ) → is_inside range base free ≡ true → P base free (block_at family base free ∷ [])) →
    ((base : ℕ) → is_inside range base zero ≡ false → P base zero []) →
    ((base half : ℕ) (first second : List Cidr) → is_inside range base (suc half) ≡ false → P base half first → P (base + 2 ^ half) half second → P base (suc half) (first ++ second)) →
    (base free : ℕ) → P base free (blocks_in family range base free)
unfolding blocks_in
blocks_in-by_halves family range P whole none cut base zero =
    cond_both (is_inside range base zero) (block_at family base zero ∷ []) [] (P base zero) (whole base zero) (none base)
blocks_in-by_halves family range P whole none cut base (suc half) =
    let first = blocks_in-by_halves family range P whole none cut base half in
    let second = blocks_in-by_halves family range P whole none cut (base + 2 ^ half) half in
    cond_both (is_inside range base (suc half)) (block_at family base (suc half) ∷ []) (blocks_in family range base half ++ blocks_in family range (base + 2 ^ half) half) (P base (suc half))
    (whole base (suc half)) (λ out. cut base half _ _ out first second)

-- ---- what the code does

-- a family has at most 2 ^ 128 addresses
pub spaces : (family : Family) → (width_of family ≤ 128) × (2 ^ width_of family ≤ 2 ^ 128)
spaces family.Four = (lit≤ tt, lit≤ tt)
spaces family.Six = (lit≤ tt, lit≤ tt)

-- a block that the code cuts, and its halves
pub record IsCut (family : Family) (range : Range ℕ) (base free half : ℕ) : Type 0 where
  pub out : is_inside range base free ≡ false
  pub halved : suc half ≡ free
  pub short : half ≤ width_of family
  pub fits : base + 2 ^ half + 2 ^ half ≤ 2 ^ width_of family
  pub small : 2 ^ width_of family ≤ 2 ^ 128

pub IsCut-from : (family : Family) (range : Range ℕ) (base free last : ℕ) → free ≤ width_of family → base + 2 ^ free ≤ 2 ^ width_of family → last + 1 ≡ base + 2 ^ free → base ≤ range.hi →
    range.lo ≤ last → (range.lo ≤ base → last ≤ range.hi → ⊥) → IsCut family range base free (free - 1)
IsCut-from family range base free last short fits ends begins reaches partly =
    let out = is_inside-not range base free (λ above below. partly above (omega arith)) in
    let some = has_halves range base free out begins (omega arith) in
    let halved : suc (free - 1) ≡ free = omega arith in
    let twice : 2 ^ free ≡ 2 ^ (free - 1) * 2 = sym (ap (λ (k : ℕ). 2 ^ k) halved) ∙ pow-suc 2 (free - 1) in
    record { out = out; halved = halved; short = omega arith; fits = omega arith; small = (spaces family).1 }

-- a block that is all in the range, put last
pub one_block : (family : Family) (range : Range ℕ) (base free : ℕ) (block : Cidr) (old made : List Cidr) → range.lo ≤ base → base + 2 ^ free ≤ range.hi + 1 → block ≡ block_at family base free →
    made ≡ old ++ block ∷ [] → made ≡ old ++ blocks_in family range base free
one_block family range base free block old made above below is adds =
    rw (adds, is, blocks_in-whole family range base free (is_inside-from range base free above below)) refl

-- both halves, one after the other
pub both_halves : (family : Family) (range : Range ℕ) (base second free half : ℕ) (old first made : List Cidr) → suc half ≡ free → second ≡ base + 2 ^ half → is_inside range base free ≡ false →
    first ≡ old ++ blocks_in family range base half → made ≡ first ++ blocks_in family range second half → made ≡ old ++ blocks_in family range base free
both_halves family range base second free half old first made is begins out in_first in_second =
    let cut : blocks_in family range base (suc half) ≡ blocks_in family range base half ++ blocks_in family range (base + 2 ^ half) half = blocks_in-cut family range base half
    (ap (λ (k : ℕ). is_inside range base k) is ∙ out) in
    in_second
    ∙ rw (in_first, begins) (append_assoc old (blocks_in family range base half) (blocks_in family range (base + 2 ^ half) half))
    ∙ ap (λ (blocks : List Cidr). old ++ blocks) (sym cut ∙ ap (λ (k : ℕ). blocks_in family range base k) is)

-- ---- for who asks for the list of one range

pub prefixes_of-one_four : (range : Range ℕ) → prefixes_of (record { first = range ∷ []; second = [] }) ≡ range_prefixes family.Four range
prefixes_of-one_four range = append-nil (range_prefixes family.Four range ++ []) ∙ append-nil (range_prefixes family.Four range)

pub prefixes_of-one_six : (range : Range ℕ) → prefixes_of (record { first = []; second = range ∷ [] }) ≡ range_prefixes family.Six range
prefixes_of-one_six range = append-nil (range_prefixes family.Six range)
