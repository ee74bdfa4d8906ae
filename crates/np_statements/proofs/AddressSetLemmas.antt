-- Sets of addresses by their members. For `ends_of` and `works_alone`.
use Rattle.std.proofs.Common.{◌≡◌, ℕ, ◌+◌, ◌-◌, ◌^◌, ◌<◌, ◌&&◌, ◌||◌, nat_le, nat_lt, true, false, refl, sym, ◌∙◌, arith, lit≤}
use Rattle.std.proofs.lemmas.Bool.{and_from, le-leb, lt-ltb, or_left}
use Rattle.std.proofs.lemmas.Bool.Decides.{nat_tests}
use Rattle.std.proofs.lemmas.Nat.{pow_pos}
use Rattle.np_addr.specs.Prelude.{AddressRanges, IsAddress, IsAddressSet, cidr_has, set_has}
use Rattle.np_statements.specs.Prelude.{Address, Cidr, block_addresses, every_address, no_address}
use Rattle.np_addr.specs.declared.address.Address.TheVariants as address
use Rattle.np_addr.specs.declared.cidr.Cidr.TheVariants as cidr
use Rattle.np_base.proofs.Ranges.{same_members_same_ranges}
use Rattle.np_base.specs.Beside.{equal_by_parts}
use Rattle.np_sets.specs.Laws.{holds-last}

-- sets with the same addresses are equal
same_set : (made set : AddressRanges) → IsAddressSet made → IsAddressSet set → ((address : Address) → IsAddress address → set_has made address ≡ set_has set address) → made ≡ set
same_set made set well well' alike =
    equal_by_parts made set
    (same_members_same_ranges (λ a. a) 0 (2 ^ 32 - 1) (λ p q low high same. same) 0 made.first set.first (omega arith) well.0 well'.0 (λ n low high. alike (address.Four n) (omega arith)))
    (same_members_same_ranges (λ a. a) 0 (2 ^ 128 - 1) (λ p q low high same. same) 0 made.second set.second (omega arith) well.1 well'.1 (λ n low high. alike (address.Six n) (omega arith)))

-- ---- none and all

pub is-no_address : (made : AddressRanges) → IsAddressSet made → ((address : Address) → set_has made address ≡ false) → made ≡ no_address
is-no_address made well none = same_set made no_address well (tt, tt) (λ a is. none a ∙ lacks a)
  where
    lacks : (a : Address) → false ≡ set_has no_address a
    lacks (address.Four n) = refl
    lacks (address.Six n) = refl

pub has-every_address : (a : Address) → IsAddress a → set_has every_address a ≡ true
has-every_address (address.Four n) below = or_left _ _ (and_from _ _ (le-leb 0 n (omega arith)) (le-leb n (2 ^ 32 - 1) (omega arith)))
has-every_address (address.Six n) below = or_left _ _ (and_from _ _ (le-leb 0 n (omega arith)) (le-leb n (2 ^ 128 - 1) (omega arith)))

pub is-every_address : (made : AddressRanges) → IsAddressSet made → ((address : Address) → IsAddress address → set_has made address ≡ true) → made ≡ every_address
is-every_address made well all =
    same_set made every_address well ((lit≤ tt, lit≤ tt, lit≤ tt, tt), (lit≤ tt, lit≤ tt, lit≤ tt, tt)) (λ a is. all a is ∙ sym (has-every_address a is))

-- ---- blocks

-- the numbers from a first one on, so many of them, are those to the last
to_last : (base size n : ℕ) → 0 < size → ((nat_le base n && nat_le n (base + size - 1)) || false) ≡ (nat_le base n && nat_lt n (base + size))
to_last base size n some = grind (arith, nat_tests)

pub has-addresses_in : (block : Cidr) (a : Address) → set_has (block_addresses block) a ≡ cidr_has block a
has-addresses_in (cidr.Four base len) (address.Four n) = to_last base (2 ^ (32 - len)) n (pow_pos (32 - len))
has-addresses_in (cidr.Six base len) (address.Six n) = to_last base (2 ^ (128 - len)) n (pow_pos (128 - len))
has-addresses_in (cidr.Four base len) (address.Six n) = refl
has-addresses_in (cidr.Six base len) (address.Four n) = refl

-- the last number is one of them
has_last : (base size : ℕ) → 0 < size → (nat_le base (base + size - 1) && nat_lt (base + size - 1) (base + size)) ≡ true
has_last base size some = and_from _ _ (le-leb base (base + size - 1) (omega arith)) (lt-ltb (base + size - 1) (base + size) (omega arith))

well-addresses_in : (block : Cidr) (made : AddressRanges) → IsAddressSet made → ((a : Address) → set_has made a ≡ cidr_has block a) → IsAddressSet (block_addresses block)
well-addresses_in (cidr.Four base len) made well members =
    let some = pow_pos (32 - len) in
    let last = holds-last (λ a. a) 0 (2 ^ 32 - 1) made.first (base + 2 ^ (32 - len) - 1) well.0 (members (address.Four (base + 2 ^ (32 - len) - 1)) ∙ has_last base (2 ^ (32 - len)) some) in
    ((omega arith, omega arith, last, tt), tt)
well-addresses_in (cidr.Six base len) made well members =
    let some = pow_pos (128 - len) in
    let last = holds-last (λ a. a) 0 (2 ^ 128 - 1) made.second (base + 2 ^ (128 - len) - 1) well.1 (members (address.Six (base + 2 ^ (128 - len) - 1)) ∙ has_last base (2 ^ (128 - len)) some) in
    (tt, (omega arith, omega arith, last, tt))

pub is-addresses_in : (block : Cidr) (made : AddressRanges) → IsAddressSet made → ((a : Address) → set_has made a ≡ cidr_has block a) → made ≡ block_addresses block
is-addresses_in block made well members =
    same_set made (block_addresses block) well (well-addresses_in block made well members) (λ a is. members a ∙ sym (has-addresses_in block a))
