-- The texts of addresses, and of blocks of them, each with its value.
use Rattle.std.specs.Prelude.{ℕ, ◌-◌, ◌*◌, ◌/◌, ◌^◌, ◌&&◌, ◌||◌, ◌==◌, nat_lt, List, [], ◌∷◌, length, slice_index, Option, Some, None, option_map, if◌then◌else◌}
use Rattle.std.specs.Option.{option_or}
use Rattle.np_addr.specs.Types.{Address, Cidr}
use Rattle.np_addr.specs.declared.address.Address.TheVariants as address
use Rattle.np_addr.specs.declared.cidr.Cidr.TheVariants as cidr
use Rattle.np_addr.specs.Addresses.{family_of, width_of}
use Rattle.np_addr.specs.Numeral.{numeral_of}
use Rattle.np_addr.specs.Pieces.{pieces}
use Rattle.np_addr.specs.Steps.{◌>>=◌}
use Rattle.np_addr.specs.Ipv4Grammar.{ipv4_of}
use Rattle.np_addr.specs.Ipv6Grammar.{ipv6_of}

-- the address that the text writes, of one family or the other
unfoldable pub address_of : List ℕ → Option Address
address_of text = option_or (option_map address.Four (ipv4_of text)) (option_map address.Six (ipv6_of text))

-- how many first bits a block has in common: a decimal without a sign or a leading zero (48 is `0`)
unfoldable pub length_of : ℕ → List ℕ → Option ℕ
length_of most text =
    numeral_of 10 3 text >>= λ n. if (nat_lt 1 (length text) && (slice_index text 0 == 48)) || nat_lt most n then None else Some n

-- n with the low bits cleared, so many of them
abbrev pub cleared : ℕ → ℕ → ℕ
cleared bits n = n / 2 ^ bits * 2 ^ bits

-- the block of an address: those with the same first bits, so many of them
abbrev pub block_of : Address → ℕ → Cidr
block_of (address.Four n) len = cidr.Four (cleared (32 - len) n) len
block_of (address.Six n) len = cidr.Six (cleared (128 - len) n) len

-- an address, and a length that its family has
abbrev pub block_between : List ℕ → List ℕ → Option Cidr
block_between before after = do
  address ← address_of before
  Some (block_of address (← length_of (width_of (family_of address)) after))

-- what stands before and after one `/`
abbrev pub block_of_pieces : List (List ℕ) → Option Cidr
block_of_pieces (before ∷ after ∷ []) = block_between before after
block_of_pieces pieces = None

-- the block that the text writes, its host bits cleared (47 is `/`)
unfoldable pub cidr_of : List ℕ → Option Cidr
cidr_of text = block_of_pieces (pieces 47 text)
