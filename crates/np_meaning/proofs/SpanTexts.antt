-- Ranges of addresses are told apart by their texts. For `one_text_has_one_span`.
use Rattle.std.proofs.Common.{◌≡◌, ℕ, ◌≤◌, ◌==◌, ◌&&◌, ◌||◌, nat_le, Bool, true, false, cond, List, [], ◌∷◌, ◌++◌, get_or, map, All, codes, refl, sym, ap, subst, ◌∙◌, append-nil, append_assoc, arith, lit≤}
use Rattle.std.specs.List.{join_by}
use Rattle.std.proofs.lemmas.Bool.{and_from, or_left, eqb-true, false≢true, le-leb, leb-true}
use Rattle.std.proofs.lemmas.List.Elements.{All-head, All-tail}
use Rattle.std.proofs.lemmas.List.Folds.{list_any_at}
use Rattle.std.proofs.lemmas.Option.{same_Some}
use Rattle.np_meaning.specs.Prelude.{Address, AddressSpan, Cidr, Family, IsRangeOf, IsSpan, One, Range, Report, Two}
use Rattle.np_addr.specs.declared.address.Address.TheVariants as address
use Rattle.np_addr.specs.declared.address.Family.TheVariants as family
use Rattle.np_addr.specs.declared.cidr.Cidr.TheVariants as cidr
use Rattle.np_addr.specs.Prelude.{AddressRanges, IsAddress, IsCidr, IsRightPrefixList, address_text, base_of, cidr_has, cidr_of, cidr_text, pieces, set_has, some_block_has}
use Rattle.np_addr.proofs.CanonicalLemmas.{address_text_injective, cidr_of-cidr_text}
use Rattle.np_addr.proofs.PieceLemmas.{IsOther, pieces-first, pieces-one}
use Rattle.np_addr.proofs.PrefixLemmas.{prefixes_of-one_four, prefixes_of-one_six}
use Rattle.np_addr.proofs.RightPrefixes.{prefixes_of-right}
use Rattle.np_addr.proofs.OnePrefixList.{base_is_in}
use Rattle.np_base.specs.Ranges.{holds}
use Rattle.np_report.specs.Prelude.{blocks_of, ends_text, span_text}
use Rattle.np_table.specs.Prelude.{IsInFamily}
use Rattle.np_kinds.specs.Prelude.{address_numbered}
use Rattle.np_table.specs.declared.rows.AddressSpan.TheVariants as span
use Rattle.np_meaning.proofs.AddressBytes.{IsForeign, address-lacks, block-lacks}

-- ---- by their ends

dash : IsForeign 45
dash = record { digit = lit≤ tt; dot = refl; colon = refl }

pub address-fits : (family : Family) (n : ℕ) → IsInFamily family n → IsAddress (address_numbered family n)
address-fits family.Four n within = omega arith
address-fits family.Six n within = omega arith

low-within : (family : Family) (range : Range ℕ) → IsRangeOf family range → IsInFamily family range.lo
low-within family.Four range of = omega (arith, of.0, of.1)
low-within family.Six range of = omega (arith, of.0, of.1)

parts-of-address : (f g : Family) (m n : ℕ) → address_numbered f m ≡ address_numbered g n → (f ≡ g) × (m ≡ n)
parts-of-address family.Four family.Four m n same = (refl, cc)
parts-of-address family.Six family.Six m n same = (refl, cc)
parts-of-address family.Four family.Six m n same = absurd cc
parts-of-address family.Six family.Four m n same = absurd cc

-- the texts of the ends
abbrev end_texts : Family → Range ℕ → Bool → List (List ℕ)
end_texts family range true = address_text (address_numbered family range.lo) ∷ []
end_texts family range false = address_text (address_numbered family range.lo) ∷ address_text (address_numbered family range.hi) ∷ []

module _ (family : Family) (range : Range ℕ) (of : IsRangeOf family range) where
  pub low-fits : IsAddress (address_numbered family range.lo)
  low-fits = address-fits family range.lo (low-within family range of)

  pub high-fits : IsAddress (address_numbered family range.hi)
  high-fits = address-fits family range.hi of.1

  ends-cut : pieces 45 (ends_text family range) ≡ end_texts family range (range.lo == range.hi)
  ends-cut = by (range.lo == range.hi)
    where
      low : List ℕ
      low = address_text (address_numbered family range.lo)

      high : List ℕ
      high = address_text (address_numbered family range.hi)

      by : (one : Bool) → pieces 45 (cond one low (low ++ codes "-" ++ high)) ≡ end_texts family range one
      by true = pieces-one 45 low (address-lacks 45 dash _ low-fits)
      by false =
          rw (append_assoc low (codes "-") high)
          (pieces-first 45 low high (address-lacks 45 dash _ low-fits) ∙ ap (λ (rest : List (List ℕ)). low ∷ rest) (pieces-one 45 high (address-lacks 45 dash _ high-fits)))

module _ (f g : Family) (r s : Range ℕ) (of_r : IsRangeOf f r) (of_s : IsRangeOf g s) where
  ends-apart : (one other : Bool) → (r.lo == r.hi) ≡ one → (s.lo == s.hi) ≡ other → end_texts f r one ≡ end_texts g s other → (f ≡ g) × (r ≡ s)
  ends-apart true true one other same =
      let parts = parts-of-address f g r.lo s.lo (address_text_injective _ _ (low-fits f r of_r) (low-fits g s of_s) cc) in
      (parts.0, rw (← eqb-true r.lo r.hi one, ← eqb-true s.lo s.hi other, parts.1) refl)
  ends-apart false false one other same =
      let lows = parts-of-address f g r.lo s.lo (address_text_injective _ _ (low-fits f r of_r) (low-fits g s of_s) cc) in
      let highs = parts-of-address f g r.hi s.hi (address_text_injective _ _ (high-fits f r of_r) (high-fits g s of_s) cc) in
      (lows.0, rw (lows.1, highs.1) refl)
  ends-apart true false one other same = absurd cc
  ends-apart false true one other same = absurd cc

  pub range-by_ends : ends_text f r ≡ ends_text g s → (f ≡ g) × (r ≡ s)
  range-by_ends same = ends-apart _ _ refl refl (sym (ends-cut f r of_r) ∙ ap (pieces 45) same ∙ ends-cut g s of_s)

span-by_ends : (a b : AddressSpan) → IsSpan a → IsSpan b → span_text One a ≡ span_text One b → a ≡ b
span-by_ends (span.Four r) (span.Four s) is_a is_b same = ap span.Four (range-by_ends family.Four family.Four r s is_a is_b same).1
span-by_ends (span.Six r) (span.Six s) is_a is_b same = ap span.Six (range-by_ends family.Six family.Six r s is_a is_b same).1
span-by_ends (span.Four r) (span.Six s) is_a is_b same = let never = (range-by_ends family.Four family.Six r s is_a is_b same).0 in absurd cc
span-by_ends (span.Six r) (span.Four s) is_a is_b same = let never = (range-by_ends family.Six family.Four r s is_a is_b same).0 in absurd cc

-- ---- by their blocks

comma : IsForeign 44
comma = record { digit = lit≤ tt; dot = refl; colon = refl }

-- the range as a set
abbrev set_of : AddressSpan → AddressRanges
set_of (span.Four range) = record { first = range ∷ []; second = [] }
set_of (span.Six range) = record { first = []; second = range ∷ [] }

blocks-right : (a : AddressSpan) → IsSpan a → IsRightPrefixList (set_of a) (blocks_of a)
blocks-right (span.Four range) is =
    subst (IsRightPrefixList (set_of (span.Four range))) (prefixes_of-one_four range) (prefixes_of-right (set_of (span.Four range)) ((omega arith, is.0, is.1, tt), tt))
blocks-right (span.Six range) is =
    subst (IsRightPrefixList (set_of (span.Six range))) (prefixes_of-one_six range) (prefixes_of-right (set_of (span.Six range)) (tt, (omega arith, is.0, is.1, tt)))

-- ---- which addresses a range has

-- the number is in a range that is alone
alone-from : (range : Range ℕ) (n : ℕ) → range.lo ≤ n → n ≤ range.hi → holds (λ (m : ℕ). m) (range ∷ []) n ≡ true
alone-from range n above below = or_left _ _ (and_from _ _ (le-leb range.lo n above) (le-leb n range.hi below))

alone-parts : (range : Range ℕ) (n : ℕ) → holds (λ (m : ℕ). m) (range ∷ []) n ≡ true → (range.lo ≤ n) × (n ≤ range.hi)
alone-parts range n held = by (nat_le range.lo n) (nat_le n range.hi) refl refl held
  where
    by : (low high : Bool) → nat_le range.lo n ≡ low → nat_le n range.hi ≡ high → ((low && high) || false) ≡ true → (range.lo ≤ n) × (n ≤ range.hi)
    by true true low high inside = (leb-true range.lo n low, leb-true n range.hi high)
    by true false low high inside = absurd (false≢true inside)
    by false high low is_high inside = absurd (false≢true inside)

-- ranges with the same numbers are one
alone-same : (r s : Range ℕ) → r.lo ≤ r.hi → s.lo ≤ s.hi → ((n : ℕ) → holds (λ (m : ℕ). m) (r ∷ []) n ≡ holds (λ (m : ℕ). m) (s ∷ []) n) → r ≡ s
alone-same r s some_r some_s same =
    let a = alone-parts s r.lo (sym (same r.lo) ∙ alone-from r r.lo (omega arith) some_r) in
    let b = alone-parts s r.hi (sym (same r.hi) ∙ alone-from r r.hi some_r (omega arith)) in
    let c = alone-parts r s.lo (same s.lo ∙ alone-from s s.lo (omega arith) some_s) in
    let d = alone-parts r s.hi (same s.hi ∙ alone-from s s.hi some_s (omega arith)) in
    let low : r.lo ≡ s.lo = omega (arith, a, c) in
    let high : r.hi ≡ s.hi = omega (arith, b, d) in
    rw (low, high) refl

-- a range has an address, its first
abbrev first-of : AddressSpan → Address
first-of (span.Four range) = address.Four range.lo
first-of (span.Six range) = address.Six range.lo

has-first : (a : AddressSpan) → IsSpan a → set_has (set_of a) (first-of a) ≡ true
has-first (span.Four range) is = alone-from range range.lo (omega arith) is.0
has-first (span.Six range) is = alone-from range range.lo (omega arith) is.0

has-fits : (a : AddressSpan) → IsSpan a → (one : Address) → set_has (set_of a) one ≡ true → IsAddress one
has-fits (span.Four range) is (address.Four n) held = let parts = alone-parts range n held in omega (arith, parts.1, is.1)
has-fits (span.Six range) is (address.Six n) held = let parts = alone-parts range n held in omega (arith, parts.1, is.1)
has-fits (span.Four range) is (address.Six n) held = absurd (false≢true held)
has-fits (span.Six range) is (address.Four n) held = absurd (false≢true held)

same-addresses : (a b : AddressSpan) → IsSpan a → IsSpan b → ((one : Address) → set_has (set_of a) one ≡ set_has (set_of b) one) → a ≡ b
same-addresses (span.Four r) (span.Four s) is_a is_b same = ap span.Four (alone-same r s is_a.0 is_b.0 (λ n. same (address.Four n)))
same-addresses (span.Six r) (span.Six s) is_a is_b same = ap span.Six (alone-same r s is_a.0 is_b.0 (λ n. same (address.Six n)))
same-addresses (span.Four r) (span.Six s) is_a is_b same = absurd (false≢true (sym (same (address.Four r.lo)) ∙ has-first (span.Four r) is_a))
same-addresses (span.Six r) (span.Four s) is_a is_b same = absurd (false≢true (sym (same (address.Six r.lo)) ∙ has-first (span.Six r) is_a))

-- ---- the blocks of a range

-- a block that is printed as it is read
abbrev IsPlain : Cidr → Type 0
IsPlain block = IsAddress (base_of block) × IsCidr block

module _ (a : AddressSpan) (is : IsSpan a) where
  right : IsRightPrefixList (set_of a) (blocks_of a)
  right = blocks-right a is

  pub blocks-plain : All IsPlain (blocks_of a)
  blocks-plain k d within =
      let block = get_or (blocks_of a) k d in
      (has-fits a is (base_of block) (sym (right.exact (base_of block)) ∙ list_any_at (λ one. cidr_has one (base_of block)) (blocks_of a) k d within (base_is_in block)), right.well k d within)

  some-block : blocks_of a ≡ [] → ⊥
  some-block none = false≢true (sym (ap (λ (blocks : List Cidr). some_block_has blocks (first-of a)) none) ∙ right.exact (first-of a) ∙ has-first a is)

-- blocks without a comma in their texts
abbrev AreLacking : List Cidr → Type 0
AreLacking blocks = All (λ block. All (IsOther 44) (cidr_text block)) blocks

-- texts that are joined by commas are cut at them
joined-cut : (blocks : List Cidr) → (blocks ≡ [] → ⊥) → AreLacking blocks → pieces 44 (join_by cidr_text (codes ",") blocks) ≡ map cidr_text blocks
joined-cut [] some lack = absurd (some refl)
joined-cut (block ∷ []) some lack = rw (append-nil (cidr_text block)) (pieces-one 44 (cidr_text block) (All-head (λ one. All (IsOther 44) (cidr_text one)) block [] lack))
joined-cut (block ∷ next ∷ blocks) some lack =
    pieces-first 44 (cidr_text block) (join_by cidr_text (codes ",") (next ∷ blocks)) (All-head (λ one. All (IsOther 44) (cidr_text one)) block (next ∷ blocks) lack)
    ∙ ap (λ (rest : List (List ℕ)). cidr_text block ∷ rest) (joined-cut (next ∷ blocks) (λ none. absurd cc) (All-tail (λ one. All (IsOther 44) (cidr_text one)) block (next ∷ blocks) lack))

block-apart : (a b : Cidr) → IsPlain a → IsPlain b → cidr_text a ≡ cidr_text b → a ≡ b
block-apart a b plain_a plain_b same = same_Some a b (sym (cidr_of-cidr_text a plain_a.0 plain_a.1) ∙ ap cidr_of same ∙ cidr_of-cidr_text b plain_b.0 plain_b.1)

blocks-apart : (xs ys : List Cidr) → All IsPlain xs → All IsPlain ys → map cidr_text xs ≡ map cidr_text ys → xs ≡ ys
blocks-apart [] [] plain_xs plain_ys same = refl
blocks-apart [] (y ∷ ys) plain_xs plain_ys same = absurd cc
blocks-apart (x ∷ xs) [] plain_xs plain_ys same = absurd cc
blocks-apart (x ∷ xs) (y ∷ ys) plain_xs plain_ys same =
    let first : x ≡ y = block-apart x y (All-head IsPlain x xs plain_xs) (All-head IsPlain y ys plain_ys) cc in
    let others : xs ≡ ys = blocks-apart xs ys (All-tail IsPlain x xs plain_xs) (All-tail IsPlain y ys plain_ys) cc in
    rw (first, others) refl

blocks-cut : (a : AddressSpan) → IsSpan a → pieces 44 (span_text Two a) ≡ map cidr_text (blocks_of a)
blocks-cut a is = joined-cut (blocks_of a) (some-block a is) (λ k d within. let plain = blocks-plain a is k d within in block-lacks 44 comma refl _ plain.0 plain.1)

span-by_blocks : (a b : AddressSpan) → IsSpan a → IsSpan b → span_text Two a ≡ span_text Two b → a ≡ b
span-by_blocks a b is_a is_b same =
    let blocks = blocks-apart (blocks_of a) (blocks_of b) (blocks-plain a is_a) (blocks-plain b is_b) (sym (blocks-cut a is_a) ∙ ap (pieces 44) same ∙ blocks-cut b is_b) in
    same-addresses a b is_a is_b (λ one. sym ((right a is_a).exact one) ∙ ap (λ (found : List Cidr). some_block_has found one) blocks ∙ (right b is_b).exact one)

pub one-span : (report : Report) (a b : AddressSpan) → IsSpan a → IsSpan b → span_text report a ≡ span_text report b → a ≡ b
one-span One a b is_a is_b same = span-by_ends a b is_a is_b same
one-span Two a b is_a is_b same = span-by_blocks a b is_a is_b same
