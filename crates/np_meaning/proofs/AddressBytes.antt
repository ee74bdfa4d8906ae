-- Bytes that stand in no text of an address or of a block. For EndTexts and SpanTexts.
use Rattle.std.proofs.Common.{◌≡◌, ℕ, ◌≤◌, ◌==◌, Bool, true, false, List, [], ◌∷◌, All, codes, decimal, inl, inr, ◌∙◌, append_assoc, arith}
use Rattle.std.proofs.lemmas.Fmt.{decimal_is_IsNumeral}
use Rattle.std.proofs.lemmas.List.Elements.{All-append, All-cons, All-nil}
use Rattle.std.specs.Char.{digit_value}
use Rattle.np_meaning.specs.Prelude.{Address, Cidr, Four, Six}
use Rattle.np_addr.specs.declared.cidr.Cidr.TheVariants as cidr
use Rattle.np_addr.specs.Prelude.{AreGroups, IsAddress, IsAddressText, IsCidr, IsSide, address_text, base_of, bits_of, cidr_text}
use Rattle.np_addr.proofs.CanonicalLemmas.{address_of-address_text}
use Rattle.np_addr.proofs.DottedLemmas.{dotted_others}
use Rattle.np_addr.proofs.GrammarLemmas.{address_text_iff}
use Rattle.np_addr.proofs.PieceLemmas.{IsOther, IsOther-from_digits}

-- no hexadecimal digit, `.` or `:`
pub record IsForeign (byte : ℕ) : Type 0 where
  pub digit : 16 ≤ digit_value byte
  pub dot : (46 == byte) ≡ false
  pub colon : (58 == byte) ≡ false

module _ (byte : ℕ) (foreign : IsForeign byte) where
  dotted-lack : (text : List ℕ) (n : ℕ) → IsAddressText text (Four n) → All (IsOther byte) text
  dotted-lack text n is = let high = foreign.digit in dotted_others byte text n (omega (arith, high)) foreign.dot is

  groups-lack : (dotted : Bool) (text groups : List ℕ) → AreGroups dotted text groups → All (IsOther byte) text
  groups-lack dotted text [] are = absurd are
  groups-lack dotted text (group ∷ groups) (inl (is, last)) = IsOther-from_digits 16 byte text foreign.digit is.numeral.1
  groups-lack dotted text (group ∷ groups) (inr (inl (first, rest, spelled, is, more))) =
      rw (spelled ∙ append_assoc first (codes ":") rest)
      (All-append (IsOther byte) first (58 ∷ rest) (IsOther-from_digits 16 byte first foreign.digit is.numeral.1) (All-cons (IsOther byte) 58 rest foreign.colon (groups-lack dotted rest groups more)))
  groups-lack dotted text (group ∷ groups) (inr (inr (n, allowed, is, value))) = dotted-lack text n is

  side-lacks : (dotted : Bool) (text groups : List ℕ) → IsSide dotted text groups → All (IsOther byte) text
  side-lacks dotted text [] is = rw is (All-nil (IsOther byte))
  side-lacks dotted text (group ∷ groups) are = groups-lack dotted text (group ∷ groups) are

  text-lacks : (text : List ℕ) (address : Address) → IsAddressText text address → All (IsOther byte) text
  text-lacks text (Four n) is = dotted-lack text n is
  text-lacks text (Six n) (groups, inl (are, eight), value) = groups-lack true text groups are
  text-lacks text (Six n) (groups, inr is, value) =
      rw (is.spelled ∙ append_assoc is.before (codes "::") is.after)
      (All-append (IsOther byte) is.before (58 ∷ 58 ∷ is.after) (side-lacks false is.before is.head is.head_groups)
      (All-cons (IsOther byte) 58 (58 ∷ is.after) foreign.colon (All-cons (IsOther byte) 58 is.after foreign.colon (side-lacks true is.after is.tail is.tail_groups))))

  pub address-lacks : (address : Address) → IsAddress address → All (IsOther byte) (address_text address)
  address-lacks address fits = text-lacks (address_text address) address ((address_text_iff (address_text address) address).0 (address_of-address_text address fits))

  bits-lack : (bits : ℕ) → bits ≤ 128 → All (IsOther byte) (decimal bits)
  bits-lack bits few =
      let high = foreign.digit in
      IsOther-from_digits 10 byte (decimal bits) (omega (arith, high)) (decimal_is_IsNumeral bits (omega arith)).0.1

  bits-few : (block : Cidr) → IsCidr block → bits_of block ≤ 128
  bits-few (cidr.Four base len) well = let few = well.0 in omega (arith, few)
  bits-few (cidr.Six base len) well = well.0

  pub block-lacks : (47 == byte) ≡ false → (block : Cidr) → IsAddress (base_of block) → IsCidr block → All (IsOther byte) (cidr_text block)
  block-lacks slash block fits well =
      rw (append_assoc (address_text (base_of block)) (codes "/") (decimal (bits_of block)))
      (All-append (IsOther byte) (address_text (base_of block)) (47 ∷ decimal (bits_of block)) (address-lacks (base_of block) fits)
      (All-cons (IsOther byte) 47 (decimal (bits_of block)) slash (bits-lack (bits_of block) (bits-few block well))))
