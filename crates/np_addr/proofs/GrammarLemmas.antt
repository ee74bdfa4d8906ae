-- The texts of addresses and of blocks are read to their values, and no other text is. For `texts_are_read_exactly` and crates above.
use Rattle.std.proofs.Common.{◌≡◌, ◌↔◌, ℕ, ◌<◌, ◌==◌, ◌&&◌, nat_lt, Bool, true, false, cond, List, [], ◌∷◌, ◌++◌, length, slice_index, codes, Option, Some, None, option_map, All, refl, sym, ap, ◌∙◌, inl, inr, append_assoc, arith, lit≤}
use Rattle.std.proofs.lemmas.Bool.{cases_lt, cases_eq, or_from, or_parts, and_left, and_right, and_from, both_ways, ltb-false, le-ltb, lt-ltb, eq-eqb, ne_eqb, true≢false}
use Rattle.std.proofs.lemmas.List.Elements.{All-append, All-cons, All-nil, All-head, All-tail}
use Rattle.std.proofs.lemmas.List.Splits.{join_with_byte-slice_split}
use Rattle.std.proofs.lemmas.Option.{none-some, same_Some, option_and_then_some}
use Rattle.std.specs.List.{join_with_byte}
use Rattle.std.specs.Option.{option_or}
use Rattle.np_addr.specs.Prelude.{Address, AreGroups, Cidr, Four, IsAddressText, IsCidrText, IsColonHex, IsDotted, IsLength, IsSide, Six, address_of, block_between, block_of_pieces, cidr_of, family_of, ipv4_of, ipv6_of, length_of, numeral_of, pieces, width_of}
use Rattle.np_addr.proofs.ColonHexLemmas.{ipv6_of-colon_hex, colon_hex_from_ipv6}
use Rattle.np_addr.proofs.DottedLemmas.{ipv4_of-dotted, dotted_from_ipv4, dotted_others}
use Rattle.np_addr.proofs.NumeralLemmas.{numeral_of-numeral, Writes-from_numeral}
use Rattle.np_addr.proofs.PieceLemmas.{IsOther, pieces-one, pieces-first, IsOther-from_digits}

-- ---- addresses

has_colon : (before after : List ℕ) → All (IsOther 58) (before ++ 58 ∷ after) → ⊥
has_colon [] after others = true≢false (All-head (IsOther 58) 58 after others)
has_colon (c ∷ before) after others = has_colon before after (All-tail (IsOther 58) c (before ++ 58 ∷ after) others)

-- eight groups have a colon between two of them
whole_colon : (text groups : List ℕ) → AreGroups true text groups → length groups ≡ 8 → All (IsOther 58) text → ⊥
whole_colon text [] are eight others = are
whole_colon text (group ∷ groups) (inl (is, last)) eight others = omega (arith, eight, ap length last)
whole_colon text (group ∷ groups) (inr (inl (first, rest, spelled, is, more))) eight others =
    has_colon first rest (rw (spelled ∙ append_assoc first (codes ":") rest) at others)
whole_colon text (group ∷ groups) (inr (inr (n, allowed, is, value))) eight others = omega (arith, eight, ap length value)

not_dotted : (text groups : List ℕ) (n : ℕ) → IsColonHex text groups → IsDotted text n → ⊥
not_dotted text groups n (inl (are, eight)) dotted = whole_colon text groups are eight (dotted_others 58 text n (lit≤ tt) refl dotted)
not_dotted text groups n (inr is) dotted =
    has_colon is.before (58 ∷ is.after) (rw (is.spelled ∙ append_assoc is.before (codes "::") is.after) at (dotted_others 58 text n (lit≤ tt) refl dotted))

ipv4_of-colon_hex : (text groups : List ℕ) → IsColonHex text groups → (o : Option ℕ) → ipv4_of text ≡ o → o ≡ None
ipv4_of-colon_hex text groups is None reads = refl
ipv4_of-colon_hex text groups is (Some n) reads = absurd (not_dotted text groups n is (dotted_from_ipv4 text n reads))

address_of-text : (text : List ℕ) (address : Address) → IsAddressText text address → address_of text ≡ Some address
unfolding address_of
address_of-text text (Four n) is = rw (ipv4_of-dotted text n is)
address_of-text text (Six n) (groups, is, value) =
    rw (ipv4_of-colon_hex text groups is (ipv4_of text) refl, ipv6_of-colon_hex text groups is) (ap (λ k. Some (Six k)) (sym value))

six_from : (text : List ℕ) (address : Address) (o : Option ℕ) → ipv6_of text ≡ o → option_map Six o ≡ Some address → IsAddressText text address
six_from text address None is reads = absurd (none-some address reads)
six_from text address (Some n) is reads = rw (← same_Some (Six n) address reads) (colon_hex_from_ipv6 text n is)

address_from : (text : List ℕ) (address : Address) (o : Option ℕ) → ipv4_of text ≡ o → option_or (option_map Four o) (option_map Six (ipv6_of text)) ≡ Some address → IsAddressText text address
address_from text address (Some n) is reads = rw (← same_Some (Four n) address reads) (dotted_from_ipv4 text n is)
address_from text address None is reads = six_from text address (ipv6_of text) refl reads

text_from_address : (text : List ℕ) (address : Address) → address_of text ≡ Some address → IsAddressText text address
unfolding address_of
text_from_address text address reads = address_from text address (ipv4_of text) refl reads

pub address_text_iff : (text : List ℕ) (address : Address) → (address_of text ≡ Some address) ↔ IsAddressText text address
address_text_iff text address = (text_from_address text address, address_of-text text address)

-- ---- blocks

-- where nothing but digits, colons and dots stands, there is no `/`
groups_others : (dotted : Bool) (text groups : List ℕ) → AreGroups dotted text groups → All (IsOther 47) text
groups_others dotted text [] are = absurd are
groups_others dotted text (group ∷ groups) (inl (is, last)) = IsOther-from_digits 16 47 text (lit≤ tt) is.numeral.1
groups_others dotted text (group ∷ groups) (inr (inl (first, rest, spelled, is, more))) =
    rw (spelled ∙ append_assoc first (codes ":") rest)
    (All-append (IsOther 47) first (58 ∷ rest) (IsOther-from_digits 16 47 first (lit≤ tt) is.numeral.1) (All-cons (IsOther 47) 58 rest refl (groups_others dotted rest groups more)))
groups_others dotted text (group ∷ groups) (inr (inr (n, allowed, is, value))) = dotted_others 47 text n (lit≤ tt) refl is

side_others : (dotted : Bool) (text groups : List ℕ) → IsSide dotted text groups → All (IsOther 47) text
side_others dotted text [] is = rw is (All-nil (IsOther 47))
side_others dotted text (group ∷ groups) are = groups_others dotted text (group ∷ groups) are

address_others : (text : List ℕ) (address : Address) → IsAddressText text address → All (IsOther 47) text
address_others text (Four n) is = dotted_others 47 text n (lit≤ tt) refl is
address_others text (Six n) (groups, inl (are, eight), value) = groups_others true text groups are
address_others text (Six n) (groups, inr is, value) =
    rw (is.spelled ∙ append_assoc is.before (codes "::") is.after)
    (All-append (IsOther 47) is.before (58 ∷ 58 ∷ is.after) (side_others false is.before is.head is.head_groups)
    (All-cons (IsOther 47) 58 (58 ∷ is.after) refl (All-cons (IsOther 47) 58 is.after refl (side_others true is.after is.tail is.tail_groups))))

-- a length has no zero in front of other digits
no_zero : (text : List ℕ) → (slice_index text 0 ≡ 48 → length text ≡ 1) → (nat_lt 1 (length text) && (slice_index text 0 == 48)) ≡ false
no_zero text plain =
    elim (cases_eq (slice_index text 0) 48) [
      | inl zero ↦ and_left _ _ (le-ltb 1 (length text) (omega (arith, plain zero)))
      | inr other ↦ and_right _ _ (ne_eqb _ 48 other)
    ]

zero_alone : (text : List ℕ) → 0 < length text → (nat_lt 1 (length text) && (slice_index text 0 == 48)) ≡ false → slice_index text 0 ≡ 48 → length text ≡ 1
zero_alone text some test zero =
    elim (cases_lt 1 (length text)) [
      | inl more ↦ absurd (both_ways _ test (and_from _ _ (lt-ltb 1 (length text) more) (eq-eqb _ 48 zero)))
      | inr one ↦ omega arith
    ]

length_of-length : (most : ℕ) (text : List ℕ) (n : ℕ) → IsLength most text n → length_of most text ≡ Some n
unfolding length_of
length_of-length most text n is =
    rw (numeral_of-numeral 10 3 text n is.writes, or_from _ _ (no_zero text is.plain) (le-ltb most n is.within))

kept_length : (refused : Bool) (m n : ℕ) → cond refused None (Some m) ≡ Some n → (refused ≡ false) × (m ≡ n)
kept_length true m n reads = absurd (none-some n reads)
kept_length false m n reads = (refl, same_Some m n reads)

length_from : (most : ℕ) (text : List ℕ) (n : ℕ) → length_of most text ≡ Some n → IsLength most text n
unfolding length_of
length_from most text n reads =
    option_and_then_some _ (numeral_of 10 3 text) n reads λ m writes kept.
    let (test, same) = kept_length _ m n kept in
    let parts = or_parts _ _ test in
    let numeral = Writes-from_numeral 10 3 text m writes in
    record {
      writes = rw same at numeral;
      within = rw same at (ltb-false most m parts.1);
      plain = zero_alone text numeral.numeral.0 parts.0;
    }

cidr_of-text : (text : List ℕ) (block : Cidr) → IsCidrText text block → cidr_of text ≡ Some block
unfolding cidr_of
cidr_of-text text block is =
    let cut : pieces 47 text ≡ is.before ∷ is.after ∷ [] =
    ap (pieces 47) (is.spelled ∙ append_assoc is.before (codes "/") is.after)
    ∙ pieces-first 47 is.before is.after (address_others is.before is.address is.address_text)
    ∙ ap (λ ps. is.before ∷ ps) (pieces-one 47 is.after (IsOther-from_digits 10 47 is.after (lit≤ tt) is.length_text.writes.numeral.1)) in
    rw (cut, address_of-text is.before is.address is.address_text, length_of-length _ is.after is.len is.length_text) (ap Some (sym is.value))

block_from : (text before after : List ℕ) (block : Cidr) → text ≡ before ++ 47 ∷ after → block_between before after ≡ Some block → IsCidrText text block
block_from text before after block spelled reads =
    option_and_then_some _ (address_of before) block reads λ address reads_address more.
    option_and_then_some _ (length_of (width_of (family_of address)) after) block more λ len reads_len value.
    record {
      before = before;
      after = after;
      address = address;
      len = len;
      spelled = spelled ∙ sym (append_assoc before (codes "/") after);
      address_text = text_from_address before address reads_address;
      length_text = length_from (width_of (family_of address)) after len reads_len;
      value = sym (same_Some _ block value);
    }

cidr_from_pieces : (text : List ℕ) (block : Cidr) (ps : List (List ℕ)) → join_with_byte 47 ps ≡ text → block_of_pieces ps ≡ Some block → IsCidrText text block
cidr_from_pieces text block [] joined reads = absurd (none-some block reads)
cidr_from_pieces text block (before ∷ []) joined reads = absurd (none-some block reads)
cidr_from_pieces text block (before ∷ after ∷ []) joined reads = block_from text before after block (sym joined) reads
cidr_from_pieces text block (before ∷ after ∷ next ∷ ps) joined reads = absurd (none-some block reads)

text_from_cidr : (text : List ℕ) (block : Cidr) → cidr_of text ≡ Some block → IsCidrText text block
unfolding cidr_of
text_from_cidr text block reads = cidr_from_pieces text block (pieces 47 text) (join_with_byte-slice_split 47 text) reads

pub cidr_text_iff : (text : List ℕ) (block : Cidr) → (cidr_of text ≡ Some block) ↔ IsCidrText text block
cidr_text_iff text block = (text_from_cidr text block, cidr_of-text text block)
