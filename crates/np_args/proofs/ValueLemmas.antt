-- What the readers of values find in a word. For `EndWord::of` and `read_number`.
use Rattle.std.proofs.Common.{◌≡◌, ◌≢◌, ◌∙◌, ◌==◌, ◌&&◌, ◌^◌, ℕ, suc, ◌<◌, ◌≤◌, ap, sym, Bool, true, false, MatchBool, List, [], ◌∷◌, length, get_or, Option, Some, None, option_map, Result, Ok, Err, refl, inl, inr, lit<, arith, nat_le, if◌then◌else◌}
use Rattle.std.proofs.lemmas.Bool.{and_from, and_parts, eq-eqb, eqb-false, eqb-true, false_from_ne_true, le-leb, leb-true, lt-ltb, ltb-true, ne_eqb, not-true, or_cases, false≢true}
use Rattle.std.proofs.lemmas.List.Folds.{list_any_at}
use Rattle.std.proofs.lemmas.Option.{cond_some, none-some, same_Some}
use Rattle.std.proofs.lemmas.Str.Parse.{without_leading_plus_none}
use Rattle.std.proofs.lemmas.Str.Pattern.{contains_char}
use Rattle.std.specs.Bool.{then_some}
use Rattle.std.specs.Char.{is_digit}
use Rattle.std.specs.List.{list_all, list_any}
use Rattle.std.specs.Result.{result_ok}
use Rattle.std.specs.Str.Parse.{AllDigits, ParsesUnsigned, digits_value}
use Rattle.std.specs.Str.Pattern.{FindsChar}
use Rattle.np_addr.specs.Prelude.{address_of}
use Rattle.np_args.specs.Prelude.{At, Named, Word, number_to, packet_end_of}

-- ---- ends

-- where the first element that passes stands
any_at : (p : ℕ → Bool) (xs : List ℕ) → list_any p xs ≡ true → (k : ℕ) × (k < length xs) × (p (get_or xs k 0) ≡ true)
any_at p [] some = absurd (false≢true some)
any_at p (x ∷ xs) some = elim (or_cases (p x) (list_any p xs) some) [
  | inl here ↦ (0, omega arith, here)
  | inr later ↦ let rest = any_at p xs later in (suc rest.0, omega arith, rest.2)
]

-- what `contains` says of a slash
pub has_slash : (word : Word) (found : Bool)
    → MatchBool found ((i : ℕ) × (j : ℕ) × FindsChar 47 word (Some (i, j)) × (i ≤ j) × (j ≤ length word)) (FindsChar 47 word None)
    → found ≡ list_any (λ c. c == 47) word
has_slash word found is = go found (contains_char 47 word found is (lit< tt))
  where
    go : (b : Bool) → (b ≡ true → (k : ℕ) × (k < length word) × (get_or word k 0 ≡ 47)) × ((k : ℕ) → k < length word → get_or word k 0 ≡ 47 → b ≡ true)
        → b ≡ list_any (λ c. c == 47) word
    go true says = let at = says.0 refl in sym (list_any_at (λ c. c == 47) word at.0 0 at.1 (eq-eqb (get_or word at.0 0) 47 at.2))
    go false says =
        sym (false_from_ne_true _ (λ some. let at = any_at (λ c. c == 47) word some in false≢true (says.1 at.0 at.1 (eqb-true (get_or word at.0 0) 47 at.2))))

-- a word without a slash
pub end_of-address : (word : Word) → false ≡ list_any (λ c. c == 47) word → packet_end_of word ≡ option_map At (address_of word)
end_of-address word none = ap (λ (slash : Bool). if slash then Some (Named word) else option_map At (address_of word)) (sym none)

-- ---- numbers

list_all-digits : (cs : List ℕ) → AllDigits 10 cs → list_all (λ c. is_digit c 10) cs ≡ true
list_all-digits [] digits = refl
list_all-digits (c ∷ cs) digits = and_from _ _ (lt-ltb _ _ digits.0) (list_all-digits cs digits.1)

AllDigits-from_test : (cs : List ℕ) → list_all (λ c. is_digit c 10) cs ≡ true → AllDigits 10 cs
AllDigits-from_test [] passed = tt
AllDigits-from_test (c ∷ cs) passed =
    let parts = and_parts _ _ passed in
    (ltb-true _ _ parts.0, AllDigits-from_test cs parts.1)

-- the decimal of a number from 1 to `most`
pub record IsNumber (most : ℕ) (word : Word) (number : ℕ) : Type 0 where
  pub digits : AllDigits 10 word
  pub first : get_or word 0 0 ≢ 48
  pub value : digits_value 10 word ≡ number
  pub low : 1 ≤ number
  pub high : number ≤ most

pub number_to-number : (most : ℕ) (word : Word) (number : ℕ) → IsNumber most word number → number_to most word ≡ Some number
number_to-number most word number is =
    let first : (get_or word 0 0 == 48) ≡ false = ne_eqb _ 48 is.first in
    rw (list_all-digits word is.digits, first, is.value, le-leb 1 number is.low, le-leb number most is.high) refl

pub IsNumber-from_word : (most : ℕ) (word : Word) (number : ℕ) → number_to most word ≡ Some number → IsNumber most word number
IsNumber-from_word most word number reads =
    let read = cond_some _ _ _ reads in
    let highest = and_parts _ _ read.0 in
    let lowest = and_parts _ _ highest.0 in
    let first = and_parts _ _ lowest.0 in
    record {
      digits = AllDigits-from_test word first.0;
      first = eqb-false (get_or word 0 0) 48 (not-true _ first.1);
      value = read.1;
      low = rw (← read.1) (leb-true _ _ lowest.1);
      high = rw (← read.1) (leb-true _ _ highest.1);
    }

-- a word with a number is not empty
pub number_to-some : (most : ℕ) (word : Word) (number : ℕ) → number_to most word ≡ Some number → 0 < length word
number_to-some most [] number reads = absurd (none-some number reads)
number_to-some most (c ∷ cs) number reads = omega arith

-- a word that is no numeral has no number
pub number_to-unparsed : {E : Type 0} (most : ℕ) (word : Word) (parsed : Result ℕ E) → most < 2 ^ 32 → ParsesUnsigned 32 10 word parsed
    → get_or word 0 0 ≢ 43 → result_ok parsed ≡ None → number_to most word ≡ None
number_to-unparsed most word (Ok n) fits reads unsigned none = absurd (none-some n (sym none))
number_to-unparsed most word (Err e) fits reads unsigned none = go (number_to most word) refl
  where
    go : (found : Option ℕ) → number_to most word ≡ found → found ≡ None
    go None is = refl
    go (Some number) is =
        let number_is = IsNumber-from_word most word number is in
        let refused = rw (without_leading_plus_none word unsigned) at reads in
        absurd (refused ((number_to-some most word number is, number_is.digits), omega (arith, number_is.value, number_is.high)))

-- a numeral has its number, where that is in range
pub number_to-parsed : {E : Type 0} (most : ℕ) (word : Word) (parsed : Result ℕ E) (n : ℕ) → ParsesUnsigned 32 10 word parsed
    → get_or word 0 0 ≢ 43 → get_or word 0 0 ≢ 48 → Some n ≡ result_ok parsed → number_to most word ≡ then_some (nat_le 1 n && nat_le n most) n
number_to-parsed most word (Err e) n reads unsigned first is = absurd (none-some n (sym is))
number_to-parsed most word (Ok m) n reads unsigned first is =
    let read = rw (without_leading_plus_none word unsigned) at reads in
    let value : digits_value 10 word ≡ n = sym (same_Some n m is ∙ read.1) in
    let other : (get_or word 0 0 == 48) ≡ false = ne_eqb _ 48 first in
    rw (list_all-digits word read.0.0.1, other, value) (chosen (nat_le 1 n && nat_le n most))
  where
    chosen : (inside : Bool) → (if inside then Some n else None) ≡ then_some inside n
    chosen true = refl
    chosen false = refl

-- ---- ports
