-- Words: where one ends, and the digits of a number. For crates above.
use Rattle.std.proofs.Common.{◌≡◌, ℕ, List, [], ◌∷◌, ◌++◌, true, false, refl, sym, ap, ◌∙◌, arith, ◌<◌, ◌^◌, decimal}
use Rattle.std.proofs.lemmas.Bool.{and_parts, false≢true, true≢false, and_from}
use Rattle.std.specs.Int.{IsInRange}
use Rattle.std.proofs.lemmas.Bool.Decides.{nat_tests}
use Rattle.std.specs.Str.Parse.{AllDigits}
use Rattle.std.proofs.lemmas.Str.Parse.{digit_from_value}
use Rattle.std.proofs.lemmas.Fmt.{decimal_is_IsNumeral}
use Rattle.np_model.specs.Prelude.{is_word, is_word_byte}

-- words that end at a byte that is none of a word are equal, and so is what follows
pub words-cut : (w w' : List ℕ) (c c' : ℕ) (t t' : List ℕ) → is_word w ≡ true → is_word w' ≡ true → is_word_byte c ≡ false → is_word_byte c' ≡ false → w ++ c ∷ t ≡ w' ++ c' ∷ t' → (w ≡ w') × (c ≡ c') × (t ≡ t')
words-cut [] [] c c' t t' word word' end end' same = (refl, cc, cc)
words-cut [] (y ∷ ys) c c' t t' word word' end end' same =
    let here : c ≡ y = cc in
    absurd (false≢true (sym end ∙ ap is_word_byte here ∙ (and_parts (is_word_byte y) (is_word ys) word').0))
words-cut (x ∷ xs) [] c c' t t' word word' end end' same =
    let here : x ≡ c' = cc in
    absurd (true≢false (sym (and_parts (is_word_byte x) (is_word xs) word).0 ∙ ap is_word_byte here ∙ end'))
words-cut (x ∷ xs) (y ∷ ys) c c' t t' word word' end end' same =
    let heads : x ≡ y = cc in
    let tails : xs ++ c ∷ t ≡ ys ++ c' ∷ t' = cc in
    let rest = words-cut xs ys c c' t t' (and_parts (is_word_byte x) (is_word xs) word).1 (and_parts (is_word_byte y) (is_word ys) word').1 end end' tails in
    (rw (heads, rest.0) refl, rest.1, rest.2)

pub digit-word : (d : ℕ) → IsInRange 48 57 d → is_word_byte d ≡ true
digit-word d digit = grind (arith, nat_tests)

pub digits-word : (digits : List ℕ) → AllDigits 10 digits → is_word digits ≡ true
digits-word [] all = refl
digits-word (d ∷ digits) all = and_from _ _ (digit-word d (digit_from_value d all.0)) (digits-word digits all.1)

pub decimal-word : (n : ℕ) → n < 2 ^ 64 → is_word (decimal n) ≡ true
decimal-word n few = digits-word (decimal n) (decimal_is_IsNumeral n few).0.1
