-- The canonical text of an address is a text of that address, so reading it gives the address again.
-- For `canonical_text_reads_again`, `canonical_texts_differ` and 4 more.
use Rattle.std.proofs.Common.{◌≡◌, ℕ, zero, suc, ◌+◌, ◌-◌, ◌*◌, ◌/◌, ◌%◌, ◌^◌, ◌<◌, ◌≤◌, ◌==◌, Bool, true, false, List, [], ◌∷◌, ◌++◌, length, take, drop, replicate, decimal, codes, Some, refl, sym, ap, ◌∙◌, inl, inr, append-nil, append_assoc, take-add, take-append-drop, length-take-le, length-drop, one-mul, arith, lit≤, lit<}
use Rattle.std.proofs.Math.Nat.{div-lt_iff_lt-mul, div-eq_of_lt, pow-zero, pow-suc}
use Rattle.std.proofs.NetLemmas.Texts.{IsZeroRun-longest_zero_run}
use Rattle.std.proofs.lemmas.Bool.{eq-eqb, cond_both, cases_lt, lt-ltb, le-ltb}
use Rattle.std.proofs.lemmas.Fmt.{digits_is_IsNumeral, decimal_is_IsNumeral, length-decimal-le, decimal_digit, first_decimal}
use Rattle.std.proofs.lemmas.Nat.{shr_split}
use Rattle.std.proofs.lemmas.Option.{same_Some}
use Rattle.std.specs.Fmt.{digits, digits_onto, digit_glyph}
use Rattle.std.specs.List.{AllByRecursion}
use Rattle.std.specs.Net.Text.{longest_zero_run}
use Rattle.np_addr.specs.Prelude.{Address, AreGroups, Cidr, Four, IsAddress, IsAddressText, IsCidr, IsCidrText, IsColonHex, IsDotted, IsGroup, IsLength, IsPart, IsSide, Six, address_of, address_text, base_of, cidr_of, cidr_text, cleared, group_text, groups_text, ipv4_text, low_groups, shortened_text}
use Rattle.np_addr.specs.declared.cidr.Cidr.TheVariants as cidr
use Rattle.np_addr.proofs.GrammarLemmas.{address_text_iff, cidr_text_iff}
use Rattle.np_addr.proofs.GroupLemmas.{number-low_groups, length-low_groups}

-- ---- decimal parts

IsPart-decimal : (n : ℕ) → n < 256 → IsPart (decimal n) n
IsPart-decimal n fits =
    let numeral = decimal_is_IsNumeral n (omega arith) in
    (record { numeral = numeral.0; short = length-decimal-le 3 n (lit< tt) (omega arith) (omega arith); value = numeral.1 }, omega arith)

IsDotted-ipv4_text : (n : ℕ) → n < 2 ^ 32 → IsDotted (ipv4_text n) n
IsDotted-ipv4_text n fits =
    let a = n / 16777216 % 256 in
    let b = n / 65536 % 256 in
    let c = n / 256 % 256 in
    let d = n % 256 in
    record {
      first = decimal a;
      second = decimal b;
      third = decimal c;
      fourth = decimal d;
      a = a;
      b = b;
      c = c;
      d = d;
      spelled = simp (append-nil, append_assoc);
      parts = (IsPart-decimal a (omega arith), IsPart-decimal b (omega arith), IsPart-decimal c (omega arith), IsPart-decimal d (omega arith));
      value = omega arith;
    }

-- ---- hexadecimal groups

length-digits_onto : (turns most base : ℕ) (upper : Bool) (n : ℕ) (behind : List ℕ) → 2 ≤ base → n < base ^ suc most → length (digits_onto turns base upper n behind) ≤ suc most + length behind
length-digits_onto zero most base upper n behind two fits = omega arith
length-digits_onto (suc turns) zero base upper n behind two fits =
    let one : base ^ 1 ≡ base = pow-suc base 0 ∙ ap (λ k. k * base) (pow-zero base) ∙ one-mul base in
    let none : n / base ≡ 0 = div-eq_of_lt (omega (arith, fits, one)) in
    rw (eq-eqb _ 0 none) (omega arith)
length-digits_onto (suc turns) (suc most) base upper n behind two fits =
    let some : 0 < base = omega arith in
    let within : n < base ^ suc most * base = omega (arith, fits, pow-suc base (suc most)) in
    let less : n / base < base ^ suc most = (div-lt_iff_lt-mul some).1 within in
    let digit = digit_glyph upper (n % base) in
    let more : length (digits_onto turns base upper (n / base) (digit ∷ behind)) ≤ suc most + suc (length behind) = length-digits_onto turns most base upper (n / base) (digit ∷ behind) two less in
    let one_more : length (digit ∷ behind) ≤ suc (suc most) + length behind = omega arith in
    cond_both (n / base == 0) (digit ∷ behind) (digits_onto turns base upper (n / base) (digit ∷ behind)) (λ (l : List ℕ). length l ≤ suc (suc most) + length behind) (λ _. one_more)
    (λ _. omega (arith, more))

length-group_text : (group : ℕ) → group < 65536 → length (group_text group) ≤ 4
unfolding digits
length-group_text group fits = length-digits_onto 64 3 16 false group [] (lit≤ tt) (omega arith)

IsGroup-group_text : (group : ℕ) → group < 65536 → IsGroup (group_text group) group
IsGroup-group_text group fits =
    let numeral = digits_is_IsNumeral 16 false (lit≤ tt) (lit≤ tt) group (omega arith) in
    record { numeral = numeral.0; short = length-group_text group fits; value = numeral.1 }

-- groups of 16 bits
abbrev AreSmall : List ℕ → Type 0
AreSmall groups = AllByRecursion (λ group. group < 65536) groups

AreSmall-low_groups : (count n : ℕ) → AreSmall (low_groups count n)
AreSmall-low_groups zero n = tt
AreSmall-low_groups (suc below) n = (omega arith, AreSmall-low_groups below n)

AreSmall-take : (count : ℕ) (groups : List ℕ) → AreSmall groups → AreSmall (take count groups)
AreSmall-take zero groups small = tt
AreSmall-take (suc count) [] small = tt
AreSmall-take (suc count) (group ∷ groups) small = (small.0, AreSmall-take count groups small.1)

AreSmall-drop : (count : ℕ) (groups : List ℕ) → AreSmall groups → AreSmall (drop count groups)
AreSmall-drop zero groups small = small
AreSmall-drop (suc count) [] small = tt
AreSmall-drop (suc count) (group ∷ groups) small = AreSmall-drop count groups small.1

AreGroups-groups_text : (dotted : Bool) (group : ℕ) (groups : List ℕ) → AreSmall (group ∷ groups) → AreGroups dotted (groups_text (group ∷ groups)) (group ∷ groups)
AreGroups-groups_text dotted group [] small = inl (rw (append-nil (group_text group)) (IsGroup-group_text group small.0), refl)
AreGroups-groups_text dotted group (next ∷ groups) small =
    inr (inl (
      group_text group,
      groups_text (next ∷ groups),
      sym (append_assoc (group_text group) (codes ":") (groups_text (next ∷ groups))),
      IsGroup-group_text group small.0,
      AreGroups-groups_text dotted next groups small.1,
    ))

IsSide-groups_text : (dotted : Bool) (groups : List ℕ) → AreSmall groups → IsSide dotted (groups_text groups) groups
IsSide-groups_text dotted [] small = refl
IsSide-groups_text dotted (group ∷ groups) small = AreGroups-groups_text dotted group groups small

whole_text : (groups : List ℕ) → length groups ≡ 8 → AreSmall groups → IsColonHex (groups_text groups) groups
whole_text [] eight small = absurd (omega arith)
whole_text (group ∷ groups) eight small = inl (AreGroups-groups_text true group groups small, eight)

-- the groups round a run of zeros
gapped_text : (groups : List ℕ) (start count : ℕ) → length groups ≡ 8 → AreSmall groups → 2 ≤ count → start + count ≤ length groups → take count (drop start groups) ≡ replicate count 0 →
    IsColonHex (groups_text (take start groups) ++ codes "::" ++ groups_text (drop (start + count) groups)) groups
gapped_text groups start count eight small long within zeros =
    let front = length-take-le start groups (omega arith) in
    let back = length-drop (start + count) groups in
    let gap : 8 - length (take start groups) - length (drop (start + count) groups) ≡ count = omega arith in
    inr (record {
      before = groups_text (take start groups);
      after = groups_text (drop (start + count) groups);
      head = take start groups;
      tail = drop (start + count) groups;
      spelled = refl;
      head_groups = IsSide-groups_text false _ (AreSmall-take start groups small);
      tail_groups = IsSide-groups_text true _ (AreSmall-drop (start + count) groups small);
      room = omega arith;
      filled = rw (gap, ← zeros, ← take-add start count groups) (sym (take-append-drop (start + count) groups));
    })

IsColonHex-shortened_text : (groups : List ℕ) → length groups ≡ 8 → AreSmall groups → IsColonHex (shortened_text groups) groups
unfolding shortened_text
IsColonHex-shortened_text groups eight small =
    let start = (longest_zero_run groups).0 in
    let count = (longest_zero_run groups).1 in
    let (within, zeros) = IsZeroRun-longest_zero_run groups in
    elim (cases_lt 1 count) [
      | inl long ↦ rw (lt-ltb 1 count long) (gapped_text groups start count eight small (omega arith) within zeros)
      | inr short ↦ rw (le-ltb 1 count short) (whole_text groups eight small)
    ]

-- ---- addresses

IsAddressText-address_text : (address : Address) → IsAddress address → IsAddressText (address_text address) address
IsAddressText-address_text (Four n) fits = IsDotted-ipv4_text n fits
IsAddressText-address_text (Six n) fits = (low_groups 8 n, IsColonHex-shortened_text (low_groups 8 n) (length-low_groups 8 n) (AreSmall-low_groups 8 n), sym (number-low_groups 8 n fits))

pub address_of-address_text : (address : Address) → IsAddress address → address_of (address_text address) ≡ Some address
address_of-address_text address fits = (address_text_iff (address_text address) address).1 (IsAddressText-address_text address fits)

pub address_text_injective : (a b : Address) → IsAddress a → IsAddress b → address_text a ≡ address_text b → a ≡ b
address_text_injective a b fits_a fits_b same =
    same_Some a b (sym (address_of-address_text a fits_a) ∙ ap address_of same ∙ address_of-address_text b fits_b)

-- ---- blocks

-- a length has no zero in front of other digits
IsLength-decimal : (most n : ℕ) → n ≤ most → most ≤ 128 → IsLength most (decimal n) n
IsLength-decimal most n within small =
    let numeral = decimal_is_IsNumeral n (omega arith) in
    record {
      writes = record { numeral = numeral.0; short = length-decimal-le 3 n (lit< tt) (omega arith) (omega arith); value = numeral.1 };
      within = within;
      plain = λ zero_first. elim (cases_lt 0 n) [
        | inl some ↦ absurd (omega (arith, first_decimal n some (omega arith), zero_first))
        | inr none ↦ ap length (decimal_digit n (omega arith))
      ];
    }

cleared_already : (bits n : ℕ) → n % 2 ^ bits ≡ 0 → n ≡ cleared bits n
cleared_already bits n rest = omega (arith, shr_split n bits, rest)

IsCidrText-cidr_text : (block : Cidr) → IsAddress (base_of block) → IsCidr block → IsCidrText (cidr_text block) block
IsCidrText-cidr_text (cidr.Four base len) fits well = record {
  before = address_text (Four base);
  after = decimal len;
  address = Four base;
  len = len;
  spelled = refl;
  address_text = IsAddressText-address_text (Four base) fits;
  length_text = IsLength-decimal 32 len well.0 (lit≤ tt);
  value = ap (λ (n : ℕ). cidr.Four n len) (cleared_already (32 - len) base well.1);
}
IsCidrText-cidr_text (cidr.Six base len) fits well = record {
  before = address_text (Six base);
  after = decimal len;
  address = Six base;
  len = len;
  spelled = refl;
  address_text = IsAddressText-address_text (Six base) fits;
  length_text = IsLength-decimal 128 len well.0 (lit≤ tt);
  value = ap (λ (n : ℕ). cidr.Six n len) (cleared_already (128 - len) base well.1);
}

pub cidr_of-cidr_text : (block : Cidr) → IsAddress (base_of block) → IsCidr block → cidr_of (cidr_text block) ≡ Some block
cidr_of-cidr_text block fits well = (cidr_text_iff (cidr_text block) block).1 (IsCidrText-cidr_text block fits well)
