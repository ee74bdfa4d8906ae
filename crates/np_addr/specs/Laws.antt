-- The words of the laws.
use Rattle.std.specs.Prelude.{◌≡◌, ℕ, ◌+◌, ◌-◌, ◌/◌, ◌^◌, ◌≤◌, true, false, List, length, take, drop, replicate}
use Rattle.np_addr.specs.Types.{Address, Cidr}
use Rattle.np_addr.specs.declared.address.Address.TheVariants as address
use Rattle.np_addr.specs.declared.cidr.Cidr.TheVariants as cidr
use Rattle.np_addr.specs.Addresses.{cidr_has}

-- so many groups from this place on are zero
abbrev pub IsZeroRun : List ℕ → ℕ → ℕ → Type 0
IsZeroRun groups start count = (start + count ≤ length groups) × (take count (drop start groups) ≡ replicate count 0)

-- the address is of the block's family, and its first bits are those of the base
abbrev pub SharesFirstBits : Cidr → Address → Type 0
SharesFirstBits (cidr.Four base len) (address.Four n) = n / 2 ^ (32 - len) ≡ base / 2 ^ (32 - len)
SharesFirstBits (cidr.Six base len) (address.Six n) = n / 2 ^ (128 - len) ≡ base / 2 ^ (128 - len)
SharesFirstBits (cidr.Four base len) (address.Six n) = ⊥
SharesFirstBits (cidr.Six base len) (address.Four n) = ⊥

-- each address of the second block is in the first, and some address of the first is not in the second
pub record IsStrictSubset (block except : Cidr) : Type 0 where
  pub within : (a : Address) → cidr_has except a ≡ true → cidr_has block a ≡ true
  pub more : (a : Address) × (cidr_has block a ≡ true) × (cidr_has except a ≡ false)
