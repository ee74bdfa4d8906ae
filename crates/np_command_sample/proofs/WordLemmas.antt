-- The digits of a number are bytes of words, and none is a slash. For ItemLemmas.
use Rattle.std.proofs.Common.{◌≡◌, ◌≢◌, ℕ, suc, length, ◌^◌, ◌<◌, ◌==◌, List, [], ◌∷◌, true, false, decimal, refl, arith, ne_eqb}
use Rattle.std.proofs.lemmas.Fmt.{decimal_is_IsNumeral}
use Rattle.std.specs.Str.Parse.{AllDigits}
use Rattle.np_base.proofs.Texts.{digit_range}
use Rattle.np_model.specs.Prelude.{has_slash, is_name, is_word, is_word_byte}
use Rattle.np_model.proofs.WordLemmas.{decimal-word}

no_slash_in_digits : (ds : List ℕ) → AllDigits 10 ds → has_slash ds ≡ false
no_slash_in_digits [] digits = refl
no_slash_in_digits (d ∷ ds) digits =
    let range = digit_range d digits.0 in
    let apart : d ≢ 47 = λ same. omega arith in
    rw (ne_eqb d 47 apart, no_slash_in_digits ds digits.1) refl

pub has_slash-decimal : (n : ℕ) → n < 2 ^ 64 → has_slash (decimal n) ≡ false
has_slash-decimal n small = no_slash_in_digits (decimal n) (decimal_is_IsNumeral n small).0.1

-- ---- a letter with a number behind it

pub is_word-numbered : (c n : ℕ) → is_word_byte c ≡ true → n < 2 ^ 64 → is_word (c ∷ decimal n) ≡ true
is_word-numbered c n byte small = rw (byte, decimal-word n small) refl

pub is_name-numbered : (c n : ℕ) → is_word_byte c ≡ true → (c == 47) ≡ false → n < 2 ^ 64 → is_name (c ∷ decimal n) ≡ true
is_name-numbered c n byte slash small =
    let some : suc (length (decimal n)) ≢ 0 = λ none. omega arith in
    rw (ne_eqb (suc (length (decimal n))) 0 some, byte, decimal-word n small, slash, has_slash-decimal n small) refl
