-- Numbers that ascend, and sides without addresses.
use Rattle.std.specs.Prelude.{◌≡◌, ◌⊎◌, ◌+◌, ℕ, List, [], ◌∷◌, Bool, true, ◌&&◌, nat_le}
use Rattle.np_addr.specs.Prelude.{AddressRanges}

-- whether the first number is at least this, and each next one greater than the one before it
abbrev pub ascends_from : ℕ → List ℕ → Bool
ascends_from least [] = true
ascends_from least (n ∷ ns) = nat_le least n && ascends_from (n + 1) ns

abbrev pub is_ascending : List ℕ → Bool
is_ascending numbers = ascends_from 0 numbers

-- the set has no address
abbrev pub HasNoAddress : AddressRanges → Type 0
HasNoAddress block = (block.first ≡ []) × (block.second ≡ [])

-- one of two sides has none
abbrev pub IsOneSided : AddressRanges → AddressRanges → Type 0
IsOneSided source destination = HasNoAddress source ⊎ HasNoAddress destination
