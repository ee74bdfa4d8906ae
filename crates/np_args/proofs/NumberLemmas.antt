-- Which words are numbers. For `ports_are_decimals`.
use Rattle.std.proofs.Common.{◌≡◌, ◌∙◌, ◌==◌, ◌↔◌, ℕ, ◌<◌, ◌≤◌, ◌^◌, [], ◌∷◌, Bool, Some, ap, arith, decimal, false, refl, sym, true}
use Rattle.std.proofs.lemmas.Bool.{eqb-true}
use Rattle.std.proofs.lemmas.Fmt.{decimal-digits_value, decimal_is_IsNumeral, first_decimal}
use Rattle.std.proofs.lemmas.Option.{none-some}
use Rattle.std.proofs.lemmas.Str.Parse.{numerals_by_value, tells_digits}
use Rattle.np_args.proofs.ValueLemmas.{IsNumber-from_word, number_to-number, number_to-some}
use Rattle.np_args.specs.Prelude.{Word, is_plain, number_to}

-- the words that are numbers are the decimals of those from 1 to `most`
pub number_to-decimal : (most : ℕ) → most < 2 ^ 32 → (word : Word) (number : ℕ) → (number_to most word ≡ Some number) ↔ ((1 ≤ number) × (number ≤ most) × (word ≡ decimal number))
number_to-decimal most fits word number = (reads, writes)
  where
    reads : number_to most word ≡ Some number → (1 ≤ number) × (number ≤ most) × (word ≡ decimal number)
    reads is =
        let number_is = IsNumber-from_word most word number is in (
          number_is.low,
          number_is.high,
          sym (decimal-digits_value (numerals_by_value _ tells_digits) word number_is.digits (number_to-some most word number is) (λ zero. absurd (number_is.first zero))
              (omega (arith, number_is.value, number_is.high)))
              ∙ ap decimal number_is.value,
        )

    writes : (1 ≤ number) × (number ≤ most) × (word ≡ decimal number) → number_to most word ≡ Some number
    writes (low, high, is) =
        let numeral = decimal_is_IsNumeral number (omega arith) in
        let first = first_decimal number (omega arith) (omega arith) in
        ap (number_to most) is ∙ number_to-number most (decimal number) number (record {
          digits = numeral.0.1;
          first = λ zero. absurd (omega (arith, first, zero));
          value = numeral.1;
          low = low;
          high = high;
        })

-- a number begins with no hyphen
pub number_to-plain : (most : ℕ) (word : Word) (number : ℕ) → number_to most word ≡ Some number → is_plain word ≡ true
number_to-plain most [] number reads = refl
number_to-plain most (first ∷ rest) number reads = go (first == 45) refl
  where
    go : (b : Bool) → (first == 45) ≡ b → is_plain (first ∷ rest) ≡ true
    go false other = rw other refl
    go true same = absurd (none-some number (rw (eqb-true first 45 same) at reads))
