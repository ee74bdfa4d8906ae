-- Blocks without some of their parts.
use Rattle.std.specs.Prelude.{ℕ, ◌-◌, ◌^◌, Bool, ◌&&◌, not, nat_lt, List, Option, position}
use Rattle.std.specs.List.{list_any}
use Rattle.np_base.specs.declared.beside.Beside.{Beside}
use Rattle.np_addr.specs.Types.{Address, Cidr, Range}
use Rattle.np_base.specs.Ranges.{holds, IsAscending}
use Rattle.np_addr.specs.declared.address.Address.TheVariants as address
use Rattle.np_addr.specs.declared.cidr.Cidr.TheVariants as cidr
use Rattle.np_addr.specs.Addresses.{cidr_has}

-- a set of addresses: the ranges of either family
abbrev pub AddressRanges : Type 0
AddressRanges = Beside (List (Range ℕ)) (List (Range ℕ))

-- whether the address is in the set
abbrev pub set_has : AddressRanges → Address → Bool
set_has set (address.Four n) = holds (λ a. a) set.first n
set_has set (address.Six n) = holds (λ a. a) set.second n

-- the ranges of either family ascend, with an address missing between two neighbours
abbrev pub IsAddressSet : AddressRanges → Type 0
IsAddressSet set = IsAscending (λ a. a) 0 (2 ^ 32 - 1) set.first × IsAscending (λ a. a) 0 (2 ^ 128 - 1) set.second

-- how many first bits the addresses of the block have in common
abbrev pub bits_of : Cidr → ℕ
bits_of (cidr.Four base len) = len
bits_of (cidr.Six base len) = len

-- the first address of the block
abbrev pub base_of : Cidr → Address
base_of (cidr.Four base len) = address.Four base
base_of (cidr.Six base len) = address.Six base

-- whether the second block is a part of the first, and not all of it: more first bits in common, and begun in the first
abbrev pub is_strict_part : Cidr → Cidr → Bool
is_strict_part block except = nat_lt (bits_of block) (bits_of except) && cidr_has block (base_of except)

-- the place of the first except that is no strict part of the block
abbrev pub first_bad_except : Cidr → List Cidr → Option ℕ
first_bad_except block excepts = position (λ except. not (is_strict_part block except)) excepts

-- whether the address is in the block and in no except
abbrev pub block_has : Cidr → List Cidr → Address → Bool
block_has block excepts address = cidr_has block address && not (list_any (λ except. cidr_has except address) excepts)
