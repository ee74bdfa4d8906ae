-- The texts of addresses and of blocks by how they are put together, as RFC 4291, section 2.2, tells it.
use Rattle.std.specs.Prelude.{◌≡◌, ℕ, ◌+◌, ◌-◌, ◌<◌, ◌≤◌, ◌⊎◌, Bool, true, false, List, [], ◌∷◌, ◌++◌, length, replicate, slice_index, codes, IsTrue}
use Rattle.std.specs.Int.Digits.{number_from_digits}
use Rattle.std.specs.Str.Parse.{IsNumeral, digits_value}
use Rattle.np_addr.specs.Types.{Address, Cidr, Four, Six}
use Rattle.np_addr.specs.Addresses.{family_of, width_of}
use Rattle.np_addr.specs.AddressGrammar.{block_of}
use Rattle.np_addr.specs.Ipv6Grammar.{halves_of}

-- one to `most` digits of the radix write n
pub record Writes (radix most : ℕ) (text : List ℕ) (n : ℕ) : Type 0 where
  pub numeral : IsNumeral radix text
  pub short : length text ≤ most
  pub value : digits_value radix text ≡ n

-- a part of an IPv4 address
abbrev pub IsPart : List ℕ → ℕ → Type 0
IsPart text n = Writes 10 3 text n × (n ≤ 255)

-- a group of an IPv6 address
abbrev pub IsGroup : List ℕ → ℕ → Type 0
IsGroup text n = Writes 16 4 text n

-- four parts with a dot between each two, the first the highest
pub record IsDotted (text : List ℕ) (n : ℕ) : Type 0 where
  pub first : List ℕ
  pub second : List ℕ
  pub third : List ℕ
  pub fourth : List ℕ
  pub a : ℕ
  pub b : ℕ
  pub c : ℕ
  pub d : ℕ
  pub spelled : text ≡ first ++ codes "." ++ second ++ codes "." ++ third ++ codes "." ++ fourth
  pub parts : IsPart first a × IsPart second b × IsPart third c × IsPart fourth d
  pub value : n ≡ number_from_digits 256 (a ∷ b ∷ c ∷ d ∷ [])

-- One group or more with a colon between each two. Where `dotted`, the last two may be written as an IPv4 address.
abbrev pub AreGroups : Bool → List ℕ → List ℕ → Type 0
AreGroups dotted text [] = ⊥
AreGroups dotted text (group ∷ groups) =
    (IsGroup text group × (groups ≡ []))
    ⊎ (((first rest : List ℕ) × (text ≡ first ++ codes ":" ++ rest) × IsGroup first group × AreGroups dotted rest groups)
    ⊎ ((n : ℕ) × IsTrue dotted × IsDotted text n × (group ∷ groups ≡ halves_of n)))

-- the groups on one side of `::`, where there may be none
abbrev pub IsSide : Bool → List ℕ → List ℕ → Type 0
IsSide dotted text [] = text ≡ []
IsSide dotted text (group ∷ groups) = AreGroups dotted text (group ∷ groups)

-- groups on both sides of `::`, which stands for the zero groups that are missing, at least one
pub record IsGapped (text groups : List ℕ) : Type 0 where
  pub before : List ℕ
  pub after : List ℕ
  pub head : List ℕ
  pub tail : List ℕ
  pub spelled : text ≡ before ++ codes "::" ++ after
  pub head_groups : IsSide false before head
  pub tail_groups : IsSide true after tail
  pub room : length head + length tail < 8
  pub filled : groups ≡ head ++ replicate (8 - length head - length tail) 0 ++ tail

-- the text of an IPv6 address: all eight groups, or fewer and `::`
abbrev pub IsColonHex : List ℕ → List ℕ → Type 0
IsColonHex text groups = (AreGroups true text groups × (length groups ≡ 8)) ⊎ IsGapped text groups

-- the text of an address
abbrev pub IsAddressText : List ℕ → Address → Type 0
IsAddressText text (Four n) = IsDotted text n
IsAddressText text (Six n) = (groups : List ℕ) × IsColonHex text groups × (n ≡ number_from_digits 65536 groups)

-- a length of at most `most` bits, with no zero in front of other digits
pub record IsLength (most : ℕ) (text : List ℕ) (n : ℕ) : Type 0 where
  pub writes : Writes 10 3 text n
  pub within : n ≤ most
  pub plain : slice_index text 0 ≡ 48 → length text ≡ 1

-- the text of a block: an address, `/`, and a length that its family has
pub record IsCidrText (text : List ℕ) (block : Cidr) : Type 0 where
  pub before : List ℕ
  pub after : List ℕ
  pub address : Address
  pub len : ℕ
  pub spelled : text ≡ before ++ codes "/" ++ after
  pub address_text : IsAddressText before address
  pub length_text : IsLength (width_of (family_of address)) after len
  pub value : block ≡ block_of address len
