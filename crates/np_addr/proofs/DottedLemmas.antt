-- The text of an IPv4 address is read to its number, and no other text is. For ColonHexLemmas, GrammarLemmas and crates above.
use Rattle.std.proofs.Common.{◌≡◌, ℕ, ◌≤◌, ◌==◌, false, List, [], ◌∷◌, ◌++◌, codes, Some, All, sym, ap, ◌∙◌, append_assoc, lit≤}
use Rattle.std.proofs.lemmas.Bool.{le-leb, leb-true}
use Rattle.std.proofs.lemmas.List.Elements.{All-append, All-cons}
use Rattle.std.proofs.lemmas.List.Splits.{join_with_byte-slice_split}
use Rattle.std.proofs.lemmas.Option.{none-some, same_Some, cond_some, option_and_then_some}
use Rattle.std.specs.Char.{digit_value}
use Rattle.std.specs.Int.Digits.{number_from_digits}
use Rattle.std.specs.List.{join_with_byte}
use Rattle.np_addr.specs.Prelude.{IsDotted, IsPart, dotted_of, ipv4_of, numeral_of, octet_of, octets_of, pieces}
use Rattle.np_addr.proofs.NumeralLemmas.{numeral_of-numeral, Writes-from_numeral}
use Rattle.np_addr.proofs.PieceLemmas.{IsOther, pieces-one, pieces-first, IsOther-from_digits}

part_of-part : (text : List ℕ) (n : ℕ) → IsPart text n → octet_of text ≡ Some n
unfolding octet_of
part_of-part text n part = rw (numeral_of-numeral 10 3 text n part.0, le-leb n 255 part.1)

IsPart-from_part : (text : List ℕ) (n : ℕ) → octet_of text ≡ Some n → IsPart text n
unfolding octet_of
IsPart-from_part text n reads =
    option_and_then_some _ (numeral_of 10 3 text) n reads λ m writes kept.
    let (fits, same) = cond_some _ m n kept in
    (rw same at (Writes-from_numeral 10 3 text m writes), rw same at (leb-true m 255 fits))

-- a part has no byte that is no decimal digit
pub part_others : (separator : ℕ) (text : List ℕ) (n : ℕ) → 10 ≤ digit_value separator → IsPart text n → All (IsOther separator) text
part_others separator text n high part = IsOther-from_digits 10 separator text high part.0.numeral.1

pub nested : (a b c d : List ℕ) → a ++ codes "." ++ b ++ codes "." ++ c ++ codes "." ++ d ≡ a ++ 46 ∷ (b ++ 46 ∷ (c ++ 46 ∷ d))
nested a b c d = simp append_assoc

parts_of-parts : (a b c d : List ℕ) (w x y z : ℕ) → IsPart a w → IsPart b x → IsPart c y → IsPart d z → octets_of a b c d ≡ Some (number_from_digits 256 (w ∷ x ∷ y ∷ z ∷ []))
unfolding octets_of
parts_of-parts a b c d w x y z is_a is_b is_c is_d =
    rw (part_of-part a w is_a, part_of-part b x is_b, part_of-part c y is_c, part_of-part d z is_d)

-- the dots cut it into its parts
pub pieces-dotted : (text : List ℕ) (n : ℕ) (is : IsDotted text n) → pieces 46 text ≡ is.first ∷ is.second ∷ is.third ∷ is.fourth ∷ []
pieces-dotted text n is =
    let plain = λ (part : List ℕ) (m : ℕ) (p : IsPart part m). part_others 46 part m (lit≤ tt) p in
    ap (pieces 46) (is.spelled ∙ nested is.first is.second is.third is.fourth)
    ∙ pieces-first 46 is.first _ (plain is.first is.a is.parts.0)
    ∙ ap (λ ps. is.first ∷ ps) (pieces-first 46 is.second _ (plain is.second is.b is.parts.1)
    ∙ ap (λ ps. is.second ∷ ps) (pieces-first 46 is.third _ (plain is.third is.c is.parts.2)
    ∙ ap (λ ps. is.third ∷ ps) (pieces-one 46 is.fourth (plain is.fourth is.d is.parts.3))))

pub ipv4_of-dotted : (text : List ℕ) (n : ℕ) → IsDotted text n → ipv4_of text ≡ Some n
unfolding ipv4_of
ipv4_of-dotted text n is =
    ap dotted_of (pieces-dotted text n is)
    ∙ parts_of-parts is.first is.second is.third is.fourth is.a is.b is.c is.d is.parts.0 is.parts.1 is.parts.2 is.parts.3
    ∙ ap Some (sym is.value)

dotted_from_parts : (text a b c d : List ℕ) (n : ℕ) → text ≡ a ++ 46 ∷ (b ++ 46 ∷ (c ++ 46 ∷ d)) → octets_of a b c d ≡ Some n → IsDotted text n
unfolding octets_of
dotted_from_parts text a b c d n joined reads =
    option_and_then_some _ (octet_of a) n reads λ w reads_a after_a.
    option_and_then_some _ (octet_of b) n after_a λ x reads_b after_b.
    option_and_then_some _ (octet_of c) n after_b λ y reads_c after_c.
    option_and_then_some _ (octet_of d) n after_c λ z reads_d value.
    record {
      first = a;
      second = b;
      third = c;
      fourth = d;
      a = w;
      b = x;
      c = y;
      d = z;
      spelled = joined ∙ sym (nested a b c d);
      parts = (IsPart-from_part a w reads_a, IsPart-from_part b x reads_b, IsPart-from_part c y reads_c, IsPart-from_part d z reads_d);
      value = sym (same_Some _ n value);
    }

dotted_from_pieces : (text : List ℕ) (n : ℕ) (ps : List (List ℕ)) → join_with_byte 46 ps ≡ text → dotted_of ps ≡ Some n → IsDotted text n
dotted_from_pieces text n [] joined reads = absurd (none-some n reads)
dotted_from_pieces text n (a ∷ []) joined reads = absurd (none-some n reads)
dotted_from_pieces text n (a ∷ b ∷ []) joined reads = absurd (none-some n reads)
dotted_from_pieces text n (a ∷ b ∷ c ∷ []) joined reads = absurd (none-some n reads)
dotted_from_pieces text n (a ∷ b ∷ c ∷ d ∷ []) joined reads = dotted_from_parts text a b c d n (sym joined) reads
dotted_from_pieces text n (a ∷ b ∷ c ∷ d ∷ e ∷ ps) joined reads = absurd (none-some n reads)

pub dotted_from_ipv4 : (text : List ℕ) (n : ℕ) → ipv4_of text ≡ Some n → IsDotted text n
unfolding ipv4_of
dotted_from_ipv4 text n reads = dotted_from_pieces text n (pieces 46 text) (join_with_byte-slice_split 46 text) reads

-- it has decimal digits and dots alone
pub dotted_others : (separator : ℕ) (text : List ℕ) (n : ℕ) → 10 ≤ digit_value separator → (46 == separator) ≡ false → IsDotted text n → All (IsOther separator) text
dotted_others separator text n high other is =
    let part = λ (p : List ℕ) (m : ℕ) (h : IsPart p m). part_others separator p m high h in
    let dot = λ (rest : List ℕ) (all : All (IsOther separator) rest). All-cons (IsOther separator) 46 rest other all in
    let third = All-append (IsOther separator) is.third (46 ∷ is.fourth) (part is.third is.c is.parts.2) (dot _ (part is.fourth is.d is.parts.3)) in
    let second = All-append (IsOther separator) is.second (46 ∷ (is.third ++ 46 ∷ is.fourth)) (part is.second is.b is.parts.1) (dot _ third) in
    let first = All-append (IsOther separator) is.first (46 ∷ (is.second ++ 46 ∷ (is.third ++ 46 ∷ is.fourth))) (part is.first is.a is.parts.0) (dot _ second) in
    rw (is.spelled ∙ nested is.first is.second is.third is.fourth) first
