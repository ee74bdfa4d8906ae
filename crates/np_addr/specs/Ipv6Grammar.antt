-- The texts of IPv6 addresses, each with its number (RFC 4291, section 2.2).
use Rattle.std.specs.Prelude.{ℕ, ◌+◌, ◌-◌, ◌/◌, ◌%◌, ◌^◌, Bool, true, false, ◌&&◌, ◌==◌, nat_lt, List, [], ◌∷◌, ◌++◌, length, replicate, Option, Some, None, option_map, if◌then◌else◌}
use Rattle.std.specs.Option.{option_or}
use Rattle.std.specs.Int.Digits.{number_from_digits}
use Rattle.np_addr.specs.Numeral.{numeral_of}
use Rattle.np_addr.specs.Pieces.{pieces}
use Rattle.np_addr.specs.Steps.{◌>>=◌}
use Rattle.np_addr.specs.Ipv4Grammar.{ipv4_of}

-- a group: one to four hexadecimal digits, of either case
abbrev pub hex_group : List ℕ → Option ℕ
hex_group text = numeral_of 16 4 text

-- an IPv4 address as two groups
abbrev pub halves_of : ℕ → List ℕ
halves_of n = (n / 2 ^ 16) ∷ (n % 2 ^ 16) ∷ []

-- the last piece: a group, or, where `dotted`, the last two groups written as an IPv4 address
unfoldable pub last_groups : Bool → List ℕ → Option (List ℕ)
last_groups dotted text = option_or (option_map (λ group. group ∷ []) (hex_group text)) (if dotted then option_map halves_of (ipv4_of text) else None)

-- the groups of what stands between colons
abbrev pub groups_between : Bool → List (List ℕ) → Option (List ℕ)
groups_between dotted [] = None
groups_between dotted (piece ∷ []) = last_groups dotted piece
groups_between dotted (piece ∷ next ∷ pieces) = do Some ((← hex_group piece) ∷ (← groups_between dotted (next ∷ pieces)))

-- the groups on one side of `::`, where there may be none
abbrev pub side_groups : Bool → List ℕ → Option (List ℕ)
side_groups dotted [] = Some []
side_groups dotted (c ∷ text) = groups_between dotted (pieces 58 (c ∷ text))

-- the text before the first `::` and the text after it (58 is `:`)
abbrev pub around_gap : List ℕ → Option (List ℕ × List ℕ)
around_gap (a ∷ b ∷ text) =
    if (a == 58) && (b == 58) then Some ([], text) else option_map (λ sides. (a ∷ sides.0, sides.1)) (around_gap (b ∷ text))
around_gap shorter = None

-- all eight groups, the first the highest
abbrev pub number_of_groups : List ℕ → Option ℕ
number_of_groups groups = if length groups == 8 then Some (number_from_digits 65536 groups) else None

-- fewer, and between them the zero groups for which `::` stands, at least one
abbrev pub filled_of : List ℕ → List ℕ → Option ℕ
filled_of head tail = if nat_lt (length head + length tail) 8
    then Some (number_from_digits 65536 (head ++ replicate (8 - length head - length tail) 0 ++ tail)) else None

-- without `::`, and with it
abbrev pub number_of_sides : List ℕ → Option (List ℕ × List ℕ) → Option ℕ
number_of_sides text None = groups_between true (pieces 58 text) >>= number_of_groups
number_of_sides text (Some sides) = do filled_of (← side_groups false sides.0) (← side_groups true sides.1)

-- the number of an IPv6 address
unfoldable pub ipv6_of : List ℕ → Option ℕ
ipv6_of text = number_of_sides text (around_gap text)
