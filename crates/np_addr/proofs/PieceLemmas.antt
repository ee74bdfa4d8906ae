-- How a text is cut at separators. For `split_first` and crates above.
use Rattle.std.proofs.Common.{◌≡◌, ℕ, ◌<◌, false, ◌==◌, List, [], ◌∷◌, ◌++◌, Option, Some, None, MatchOption, All, ◌⊎◌, inl, inr, ◌≤◌, refl, ap, ◌∙◌, arith}
use Rattle.std.proofs.lemmas.Bool.{ne_eqb, eq-eqb, cases_Bool}
use Rattle.std.proofs.lemmas.List.Elements.{All-from_get_or, All-nil, All-cons}
use Rattle.std.proofs.lemmas.List.Splits.{slice_split_none, slice_split_at}
use Rattle.std.proofs.lemmas.Str.Pattern.{IsSplitOnceResult, split_parts}
use Rattle.std.specs.Borrow.{Bor}
use Rattle.std.specs.Char.{digit_value}
use Rattle.std.specs.Str.Parse.{AllDigits}
use Rattle.np_addr.specs.Prelude.{numeral_of, pieces}
use Rattle.np_addr.proofs.NumeralLemmas.{numeral_of-none}

-- a byte that is no separator
abbrev pub IsOther : ℕ → ℕ → Type 0
IsOther separator c = (c == separator) ≡ false

-- a text without a separator is one piece
pub pieces-one : (separator : ℕ) (text : List ℕ) → All (IsOther separator) text → pieces separator text ≡ text ∷ []
pieces-one separator text none = slice_split_none (λ c. c == separator) text none

-- the first piece ends at the first separator
pub pieces-first : (separator : ℕ) (text rest : List ℕ) → All (IsOther separator) text → pieces separator (text ++ separator ∷ rest) ≡ text ∷ pieces separator rest
pieces-first separator text rest none = slice_split_at (λ c. c == separator) text separator rest none (eq-eqb separator separator refl)

-- what `split_once` finds
pub pieces-cut : (separator : ℕ) (text : List ℕ) (r : Option (Bor (List ℕ) × Bor (List ℕ))) → IsSplitOnceResult separator text r → separator < 128 →
    MatchOption r (pieces separator text ≡ text ∷ []) (λ sides. pieces separator text ≡ sides.0.now ∷ pieces separator sides.1.now)
pieces-cut separator text None cut small =
    let none = split_parts separator text None cut small in
    pieces-one separator text (All-from_get_or (IsOther separator) text 0 (λ i within. ne_eqb _ separator (none i within)))
pieces-cut separator text (Some sides) cut small =
    let (is, none) = split_parts separator text (Some sides) cut small in
    ap (pieces separator) is
    ∙ pieces-first separator sides.0.now sides.1.now (All-from_get_or (IsOther separator) sides.0.now 0 (λ i within. ne_eqb _ separator (none i within)))

-- a text is one piece, or has more
pub pieces-cases : (separator : ℕ) (text : List ℕ) → (pieces separator text ≡ text ∷ []) ⊎ ((first next : List ℕ) × (more : List (List ℕ)) × (pieces separator text ≡ first ∷ next ∷ more))
pieces-cases separator [] = inl refl
pieces-cases separator (c ∷ text) =
    elim (cases_Bool (c == separator)) [
      | inl here ↦ elim (pieces-cases separator text) [
        | inl one ↦ inr ([], text, [], rw (here, one))
        | inr several ↦ inr ([], several.0, several.1 ∷ several.2, rw (here, several.3))
      ]
      | inr other ↦ elim (pieces-cases separator text) [
        | inl one ↦ inl (rw (other, one))
        | inr several ↦ inr (c ∷ several.0, several.1, several.2, rw (other, several.3))
      ]
    ]

-- the digits of a radix are no separators that are no such digits
pub IsOther-from_digits : (radix separator : ℕ) (text : List ℕ) → radix ≤ digit_value separator → AllDigits radix text → All (IsOther separator) text
IsOther-from_digits radix separator [] high digits = All-nil (IsOther separator)
IsOther-from_digits radix separator (c ∷ text) high digits =
    All-cons (IsOther separator) c text
    (ne_eqb c separator (λ same. let low = rw same at digits.0 in omega arith))
    (IsOther-from_digits radix separator text high digits.1)

-- a text that is cut is no numeral
pub numeral_of-cut : (radix most separator : ℕ) (text first next : List ℕ) (more : List (List ℕ)) → radix ≤ digit_value separator → pieces separator text ≡ first ∷ next ∷ more →
    numeral_of radix most text ≡ None
numeral_of-cut radix most separator text first next more high cut =
    numeral_of-none radix most text (λ numeral.
    let one = pieces-one separator text (IsOther-from_digits radix separator text high numeral.1) in
    cc)
