-- The right list of blocks of a set of addresses.
use Rattle.std.specs.Prelude.{◌≡◌, ℕ, zero, suc, ◌+◌, ◌-◌, ◌^◌, ◌<◌, Bool, true, false, ◌&&◌, nat_le, List, [], ◌∷◌, ◌++◌, All, AllPairs, Any, flat_map, if◌then◌else◌}
use Rattle.std.specs.List.{list_any}
use Rattle.np_addr.specs.Types.{Address, Cidr, Family, Range}
use Rattle.np_addr.specs.declared.address.Family.TheVariants as family
use Rattle.np_addr.specs.declared.cidr.Cidr.TheVariants as cidr
use Rattle.np_addr.specs.Addresses.{width_of, IsCidr, cidr_has}
use Rattle.np_addr.specs.Blocks.{AddressRanges, set_has}

-- the block of the family that begins at `base`, in which so many bits are free
abbrev pub block_at : Family → ℕ → ℕ → Cidr
block_at family.Four base free = cidr.Four base (32 - free)
block_at family.Six base free = cidr.Six base (128 - free)

-- whether all numbers of such a block are in the range
abbrev pub is_inside : Range ℕ → ℕ → ℕ → Bool
is_inside range base free = nat_le range.lo base && nat_le (base + 2 ^ free) (range.hi + 1)

-- The blocks of those addresses of such a block that are in the range: the block itself where all of them are, and else
-- those of its two halves, the first half first. One address that is not in the range has none.
unfoldable pub blocks_in : Family → Range ℕ → ℕ → ℕ → List Cidr
blocks_in family range base zero = if is_inside range base zero then block_at family base zero ∷ [] else []
blocks_in family range base (suc half) = if is_inside range base (suc half) then block_at family base (suc half) ∷ []
    else blocks_in family range base half ++ blocks_in family range (base + 2 ^ half) half

-- the right list of the addresses of one range
abbrev pub range_prefixes : Family → Range ℕ → List Cidr
range_prefixes family range = blocks_in family range 0 (width_of family)

-- the right list of a set
abbrev pub prefixes_of : AddressRanges → List Cidr
prefixes_of set = flat_map (λ range. range_prefixes family.Four range) set.first ++ flat_map (λ range. range_prefixes family.Six range) set.second

-- whether the address is in some block
abbrev pub some_block_has : List Cidr → Address → Bool
some_block_has blocks address = list_any (λ block. cidr_has block address) blocks

-- each address of the first block is in the second
abbrev pub LiesIn : Cidr → Cidr → Type 0
LiesIn inner outer = (address : Address) → cidr_has inner address ≡ true → cidr_has outer address ≡ true

-- no address is in both blocks
abbrev pub AreDisjoint : Cidr → Cidr → Type 0
AreDisjoint first second = (address : Address) → cidr_has first address ≡ true → cidr_has second address ≡ false

-- IPv4 stands before IPv6, and each family by its first addresses
abbrev pub StandsBefore : Cidr → Cidr → Type 0
StandsBefore (cidr.Four base len) (cidr.Four next longer) = base < next
StandsBefore (cidr.Six base len) (cidr.Six next longer) = base < next
StandsBefore (cidr.Four base len) (cidr.Six next longer) = Unit {0}
StandsBefore (cidr.Six base len) (cidr.Four next longer) = ⊥

-- The list is right for the set: its blocks are well formed and disjoint, and ascend, an address is in the set exactly where
-- it is in some block, and every block all of whose addresses are in the set lies in one block of the list.
pub record IsRightPrefixList (set : AddressRanges) (blocks : List Cidr) : Type 0 where
  pub well : All IsCidr blocks
  pub disjoint : AllPairs AreDisjoint blocks
  pub ascending : AllPairs StandsBefore blocks
  pub exact : (address : Address) → some_block_has blocks address ≡ set_has set address
  pub greatest : (block : Cidr) → IsCidr block → ((address : Address) → cidr_has block address ≡ true → set_has set address ≡ true) → Any (LiesIn block) blocks
