-- The texts of IPv4 addresses, each with its number.
use Rattle.std.specs.Prelude.{ℕ, List, [], ◌∷◌, Option, Some, None, nat_le, if◌then◌else◌}
use Rattle.std.specs.Int.Digits.{number_from_digits}
use Rattle.np_addr.specs.Numeral.{numeral_of}
use Rattle.np_addr.specs.Pieces.{pieces}
use Rattle.np_addr.specs.Steps.{◌>>=◌}

-- a part: one to three decimal digits, leading zeros among them, of a number of at most 255
unfoldable pub octet_of : List ℕ → Option ℕ
octet_of text = numeral_of 10 3 text >>= λ n. if nat_le n 255 then Some n else None

-- four parts, the first the highest
unfoldable pub octets_of : List ℕ → List ℕ → List ℕ → List ℕ → Option ℕ
octets_of first second third fourth = do
  Some (number_from_digits 256 ((← octet_of first) ∷ (← octet_of second) ∷ (← octet_of third) ∷ (← octet_of fourth) ∷ []))

-- what stands between dots is four parts
abbrev pub dotted_of : List (List ℕ) → Option ℕ
dotted_of (first ∷ second ∷ third ∷ fourth ∷ []) = octets_of first second third fourth
dotted_of pieces = None

-- the number of an IPv4 address (46 is `.`)
unfoldable pub ipv4_of : List ℕ → Option ℕ
ipv4_of text = dotted_of (pieces 46 text)
