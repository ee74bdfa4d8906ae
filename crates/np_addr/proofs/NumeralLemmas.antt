-- Numerals: what they are, and what `numeral_of` gives of them. For `read_numeral`.
use Rattle.std.proofs.Common.{◌≡◌, ◌≢◌, ℕ, ◌<◌, ◌≤◌, ◌^◌, true, ◌&&◌, nat_lt, nat_le, List, [], ◌∷◌, length, get_or, Option, Some, None, Result, Ok, Err, refl, sym, arith}
use Rattle.std.proofs.Math.Nat.{pow-le-pow_right}
use Rattle.std.proofs.lemmas.Option.{cond_some}
use Rattle.std.proofs.lemmas.Str.Parse.{without_leading_plus_none}
use Rattle.std.specs.Result.{result_ok}
use Rattle.std.proofs.lemmas.Bool.{and_from, and_left, and_right, and_parts, lt-ltb, ltb-true, le-leb, leb-true, lt-leb, le-ltb}
use Rattle.std.proofs.lemmas.Int.Digits.{digits_value-lt}
use Rattle.std.specs.List.{list_all}
use Rattle.std.specs.Char.{is_digit, digit_value}
use Rattle.std.specs.Str.Parse.{AllDigits, IsNumeral, ParsesUnsigned}
use Rattle.np_addr.specs.Prelude.{Writes, numeral_of}

list_all-digits : (radix : ℕ) (cs : List ℕ) → AllDigits radix cs → list_all (λ c. is_digit c radix) cs ≡ true
list_all-digits radix [] digits = refl
list_all-digits radix (c ∷ cs) digits = and_from _ _ (lt-ltb _ _ digits.0) (list_all-digits radix cs digits.1)

AllDigits-from_test : (radix : ℕ) (cs : List ℕ) → list_all (λ c. is_digit c radix) cs ≡ true → AllDigits radix cs
AllDigits-from_test radix [] passed = tt
AllDigits-from_test radix (c ∷ cs) passed =
    let parts = and_parts _ _ passed in
    (ltb-true _ _ parts.0, AllDigits-from_test radix cs parts.1)

pub numeral_of-numeral : (radix most : ℕ) (text : List ℕ) (n : ℕ) → Writes radix most text n → numeral_of radix most text ≡ Some n
unfolding numeral_of
numeral_of-numeral radix most text n writes =
    rw (lt-ltb 0 (length text) writes.numeral.0, le-leb (length text) most writes.short, list_all-digits radix text writes.numeral.1, writes.value)

-- more digits than `most` are none
pub numeral_of-long : (radix most : ℕ) (text : List ℕ) → most < length text → numeral_of radix most text ≡ None
unfolding numeral_of
numeral_of-long radix most text long =
    rw (and_left _ (list_all (λ c. is_digit c radix) text) (and_right (nat_lt 0 (length text)) _ (lt-leb (length text) most long)))

-- nor is what begins with a sign
pub numeral_of-sign : (radix most : ℕ) (text : List ℕ) → radix ≤ 36 → get_or text 0 0 ≡ 43 → numeral_of radix most text ≡ None
unfolding numeral_of
numeral_of-sign radix most [] low first = absurd (omega arith)
numeral_of-sign radix most (c ∷ cs) low first =
    let no_digit : digit_value 43 ≡ 36 = refl in
    rw (first, and_right (nat_lt 0 (length (43 ∷ cs)) && nat_le (length (43 ∷ cs)) most) _ (and_left _ (list_all (λ d. is_digit d radix) cs) (le-ltb (digit_value 43) radix (omega arith))))

-- what a numeral is
pub Writes-from_numeral : (radix most : ℕ) (text : List ℕ) (n : ℕ) → numeral_of radix most text ≡ Some n → Writes radix most text n
unfolding numeral_of
Writes-from_numeral radix most text n reads =
    let (passed, value) = cond_some _ _ _ reads in
    let parts = and_parts _ _ passed in
    let sizes = and_parts _ _ parts.0 in
    record {
      numeral = (ltb-true _ _ sizes.0, AllDigits-from_test radix text parts.1);
      short = leb-true _ _ sizes.1;
      value = value;
    }

-- what is no numeral has no number
pub numeral_of-none : (radix most : ℕ) (text : List ℕ) → (IsNumeral radix text → ⊥) → numeral_of radix most text ≡ None
numeral_of-none radix most text other = go (numeral_of radix most text) refl
  where
    go : (o : Option ℕ) → numeral_of radix most text ≡ o → numeral_of radix most text ≡ None
    go None is = is
    go (Some n) is = absurd (other (Writes-from_numeral radix most text n is).numeral)

-- what `from_str_radix` reads of a text without a sign
pub numeral_of-parsed : {E : Type 0} (radix most : ℕ) (text : List ℕ) (r : Result ℕ E) → radix ^ most ≤ 2 ^ 16 → 1 ≤ radix → length text ≤ most → get_or text 0 0 ≢ 43 →
    ParsesUnsigned 16 radix text r → result_ok r ≡ numeral_of radix most text
numeral_of-parsed radix most text (Ok n) fits low short unsigned parsed =
    let read = rw (without_leading_plus_none text unsigned) at parsed in
    sym (numeral_of-numeral radix most text n (record { numeral = read.0.0; short = short; value = sym read.1 }))
numeral_of-parsed radix most text (Err e) fits low short unsigned parsed =
    let refused = rw (without_leading_plus_none text unsigned) at parsed in
    sym (numeral_of-none radix most text (λ numeral.
    refused (numeral, omega (arith, digits_value-lt radix text numeral.1, pow-le-pow_right low short))))
