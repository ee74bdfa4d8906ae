-- The numbers of the addresses of a list.
use Rattle.std.specs.Prelude.{ℕ, ◌+◌, ◌^◌, List, Option, Some, None, Bool, ◌&&◌, nat_le, nat_lt}
use Rattle.std.specs.List.{filter_map}
use Rattle.std.specs.List.Sorted.{IsNonDecreasing, IsPermutation}
use Rattle.np_addr.specs.Types.{Address, Family}
use Rattle.np_addr.specs.declared.address.Address.TheVariants as address
use Rattle.np_addr.specs.declared.address.Family.TheVariants as family

-- the number of an address of the family
abbrev pub number_in : Family → Address → Option ℕ
number_in family.Four (address.Four n) = Some n
number_in family.Six (address.Six n) = Some n
number_in other address = None

-- those of the family, in ascending order
abbrev pub AreNumbersOf : Family → List Address → List ℕ → Type 0
AreNumbersOf family listed numbers = IsPermutation (filter_map (number_in family) listed) numbers × IsNonDecreasing numbers

-- whether a number is one of those of the block that begins at `base`, in which so many bits are free
abbrev pub is_covered : ℕ → ℕ → ℕ → Bool
is_covered base free n = nat_le base n && nat_lt n (base + 2 ^ free)
