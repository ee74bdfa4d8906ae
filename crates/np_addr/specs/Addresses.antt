-- Addresses, and the blocks that hold them.
use Rattle.std.specs.Prelude.{◌≡◌, ℕ, ◌+◌, ◌-◌, ◌%◌, ◌^◌, ◌<◌, ◌≤◌, Bool, false, ◌&&◌, nat_lt, nat_le}
use Rattle.np_addr.specs.Types.{Address, Cidr, Family}
use Rattle.np_addr.specs.declared.address.Address.TheVariants as address
use Rattle.np_addr.specs.declared.address.Family.TheVariants as family
use Rattle.np_addr.specs.declared.cidr.Cidr.TheVariants as cidr

-- the family of an address
abbrev pub family_of : Address → Family
family_of (address.Four n) = family.Four
family_of (address.Six n) = family.Six

-- how many bits an address of the family has
abbrev pub width_of : Family → ℕ
width_of family.Four = 32
width_of family.Six = 128

-- the numbers of a family
abbrev pub IsAddress : Address → Type 0
IsAddress (address.Four n) = n < 2 ^ 32
IsAddress (address.Six n) = n < 2 ^ 128

-- A length of at most 32 or 128 by the family, and no bit of the base is set behind that many.
abbrev pub IsCidr : Cidr → Type 0
IsCidr (cidr.Four base len) = (len ≤ 32) × (base % 2 ^ (32 - len) ≡ 0)
IsCidr (cidr.Six base len) = (len ≤ 128) × (base % 2 ^ (128 - len) ≡ 0)

-- whether the address is in the block: the numbers from the base on that have the base's first bits
abbrev pub cidr_has : Cidr → Address → Bool
cidr_has (cidr.Four base len) (address.Four n) = nat_le base n && nat_lt n (base + 2 ^ (32 - len))
cidr_has (cidr.Six base len) (address.Six n) = nat_le base n && nat_lt n (base + 2 ^ (128 - len))
cidr_has block other = false
