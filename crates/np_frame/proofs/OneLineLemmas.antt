-- Texts in one line, character by character. For `failures_are_told_in_one_line` and `one_line`.
use Rattle.std.proofs.Common.{◌≡◌, ◌≢◌, ℕ, ◌<◌, ◌≤◌, ◌++◌, List, [], ◌∷◌, length, flat_map, chars, encode_utf8, encode_utf8_all, codes, true, IsUtf8, refl, inl, inr, arith}
use Rattle.std.proofs.lemmas.Bool.{agree_below_at, and_from, and_parts, cond_both, leb-true, not_from_false, or_cases}
use Rattle.std.proofs.lemmas.List.{nil_from_length}
use Rattle.std.proofs.lemmas.List.Concat.{flat_map-cons}
use Rattle.std.proofs.lemmas.List.Folds.{list_all-append}
use Rattle.std.proofs.lemmas.Str.{chars_past_char, chars-nil, encodes-append}
use Rattle.std.specs.Prelude.{nat_le}
use Rattle.std.specs.Char.{is_control}
use Rattle.std.specs.Char.Escape.{escape_default}
use Rattle.std.specs.Int.{is_in_range}
use Rattle.std.specs.List.{list_all}
use Rattle.np_command.specs.declared.failure.Failure.{Failure}
use Rattle.np_command.specs.declared.failure.Failure.TheVariants.{CannotRead, CannotWrite, NoMemory, Refused, TooLarge, Usage}
use Rattle.np_frame.specs.Prelude.{IsOneLine, error_line, failure_text, in_one_line, is_shown, one_line}

pub one_line-nil : (text : List ℕ) → length text ≡ 0 → one_line text ≡ []
unfolding one_line
one_line-nil text none = rw (nil_from_length text none, chars-nil)

pub one_line-past_char : (text rest : List ℕ) (c : ℕ) → IsUtf8 text → text ≡ encode_utf8 c ++ rest
    → one_line text ≡ encode_utf8_all (in_one_line c) ++ one_line rest
unfolding one_line
one_line-past_char text rest c utf8 parts = rw (chars_past_char text rest c utf8 parts, encodes-append)

-- ---- no control character is left

escape-shown : (c : ℕ) → c < 160 → list_all is_shown (escape_default c) ≡ true
escape-shown c low = agree_below_at (λ (n : ℕ). list_all is_shown (escape_default n)) (λ (n : ℕ). true) 160 c refl low

control-low : (c : ℕ) → is_control c ≡ true → c < 160
control-low c control =
    elim (or_cases (is_in_range 0 31 c) (is_in_range 127 159 c) control) [
      | inl first ↦ let low : c ≤ 31 = leb-true c 31 (and_parts (nat_le 0 c) (nat_le c 31) first).1 in omega (arith, low)
      | inr second ↦ let low : c ≤ 159 = leb-true c 159 (and_parts (nat_le 127 c) (nat_le c 159) second).1 in omega (arith, low)
    ]

in_one_line-shown : (c : ℕ) → list_all is_shown (in_one_line c) ≡ true
in_one_line-shown c =
    cond_both (is_control c) (escape_default c) (c ∷ []) (λ (cs : List ℕ). list_all is_shown cs ≡ true)
    (λ control. escape-shown c (control-low c control))
    (λ plain. and_from (is_shown c) true (not_from_false (is_control c) plain) refl)

all_shown : (cs : List ℕ) → list_all is_shown (flat_map in_one_line cs) ≡ true
all_shown [] = refl
all_shown (c ∷ cs) = rw (flat_map-cons, list_all-append) (and_from _ _ (in_one_line-shown c) (all_shown cs))

error_line-one : (what : List ℕ) → IsOneLine (error_line what)
unfolding one_line lib.Utf8.encode
error_line-one what = record { shown = codes "error: " ++ flat_map in_one_line (chars what); all_shown = all_shown (chars what); line = refl }

pub failures-one : (failure : Failure) → failure ≢ Usage → IsOneLine (failure_text failure)
unfolding lib.Utf8.encode
failures-one Usage other = absurd (other refl)
failures-one (CannotRead name) other = error_line-one (codes "cannot read " ++ name)
failures-one TooLarge other = record { shown = codes "error: TooLarge"; all_shown = refl; line = refl }
failures-one (Refused fault) other = error_line-one _
failures-one CannotWrite other = record { shown = codes "error: cannot write"; all_shown = refl; line = refl }
failures-one NoMemory other = record { shown = codes "error: out of memory"; all_shown = refl; line = refl }
