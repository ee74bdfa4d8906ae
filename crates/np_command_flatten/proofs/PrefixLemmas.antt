-- The blocks of a prefix list are as the API has them. For FlatLemmas.
use Rattle.std.proofs.Common.{◌≡◌, ℕ, ◌+◌, ◌-◌, ◌%◌, ◌^◌, ◌≤◌, List, [], ◌∷◌, true, ◌==◌, nat_le, nat_lt, refl, sym, ◌∙◌, inl, inr, arith, le-leb, leb-true, lt-ltb}
use Rattle.std.proofs.lemmas.Bool.{and_from, and_parts, cases_Bool, eq-eqb, or_left, or_right}
use Rattle.std.proofs.lemmas.List.Elements.{recursion_from_All}
use Rattle.std.specs.List.{AllByRecursion, list_all}
use Rattle.np_addr.proofs.RightPrefixes.{prefixes_of-right}
use Rattle.np_addr.specs.Prelude.{AddressRanges, IsAddress, IsAddressSet, IsCidr, base_of, cidr_has, prefixes_of, set_has, some_block_has}
use Rattle.np_command_flatten.specs.Prelude.{Address, Cidr, Four, Range, Six, is_printable_block}
use Rattle.np_addr.specs.declared.address.Address.TheVariants as address
use Rattle.np_addr.proofs.OnePrefixList.{base_is_in}
use Rattle.np_base.specs.Ranges.{IsAscending, holds, is_within}
use Rattle.np_model.specs.Prelude.{is_well_cidr}

-- ---- numbers of ascending ranges

holds-last : (from last : ℕ) (ranges : List (Range ℕ)) (n : ℕ) → IsAscending (λ a. a) from last ranges → holds (λ a. a) ranges n ≡ true → n ≤ last
holds-last from last [] n ascending has = cc
holds-last from last (range ∷ ranges) n ascending has =
    elim (cases_Bool (is_within (λ a. a) range n)) [
      | inl inside ↦ omega (arith, ascending.2, leb-true n range.hi (and_parts (nat_le range.lo n) (nat_le n range.hi) inside).1)
      | inr outside ↦ let rest : holds (λ a. a) ranges n ≡ true = rw outside at has in holds-last (range.hi + 2) last ranges n ascending.3 rest
    ]

set-address : (set : AddressRanges) (address : Address) → IsAddressSet set → set_has set address ≡ true → IsAddress address
set-address set (address.Four n) well has = omega (arith, holds-last 0 (2 ^ 32 - 1) set.first n well.0 has)
set-address set (address.Six n) well has = omega (arith, holds-last 0 (2 ^ 128 - 1) set.second n well.1 has)

-- ---- blocks

block-printable : (block : Cidr) → IsAddress (base_of block) → IsCidr block → is_printable_block block ≡ true
block-printable (Four base len) within well =
    and_from (nat_lt base (2 ^ 32)) (is_well_cidr (Four base len)) (lt-ltb base (2 ^ 32) within)
    (and_from (nat_le len 32) (base % 2 ^ (32 - len) == 0) (le-leb len 32 well.0) (eq-eqb (base % 2 ^ (32 - len)) 0 well.1))
block-printable (Six base len) within well =
    and_from (nat_lt base (2 ^ 128)) (is_well_cidr (Six base len)) (lt-ltb base (2 ^ 128) within)
    (and_from (nat_le len 128) (base % 2 ^ (128 - len) == 0) (le-leb len 128 well.0) (eq-eqb (base % 2 ^ (128 - len)) 0 well.1))

-- blocks whose addresses are all in a set
blocks-printable : (set : AddressRanges) (blocks : List Cidr) → IsAddressSet set → AllByRecursion IsCidr blocks → ((a : Address) → some_block_has blocks a ≡ true → set_has set a ≡ true) →
    list_all is_printable_block blocks ≡ true
blocks-printable set [] well all within = refl
blocks-printable set (block ∷ blocks) well all within =
    let base = set-address set (base_of block) well (within (base_of block) (or_left (cidr_has block (base_of block)) (some_block_has blocks (base_of block)) (base_is_in block))) in
    and_from (is_printable_block block) (list_all is_printable_block blocks) (block-printable block base all.0)
    (blocks-printable set blocks well all.1 (λ a has. within a (or_right (cidr_has block a) (some_block_has blocks a) has)))

pub prefixes-printable : (set : AddressRanges) → IsAddressSet set → list_all is_printable_block (prefixes_of set) ≡ true
prefixes-printable set well =
    let right = prefixes_of-right set well in
    blocks-printable set (prefixes_of set) well (recursion_from_All IsCidr (prefixes_of set) right.well) (λ a has. sym (right.exact a) ∙ has)
