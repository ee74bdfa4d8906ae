-- Lists of ranges between the same numbers. For `same_ranges`.
use Rattle.std.proofs.Common.{◌≡◌, ℕ, List, [], ◌∷◌, length, false, ◌==◌, refl, arith}
use Rattle.std.proofs.lemmas.Bool.Decides.{nat_tests}
use Rattle.np_base.specs.declared.range.Range.{Range}
use Rattle.np_sets.specs.Alike.{is_alike, are_alike}

-- two first ranges that differ decide
pub are_alike-apart : {P : Type 0} (number_of : P → ℕ) (left right : List (Range P)) (a b : Range P) (a_rest b_rest : List (Range P)) → left ≡ a ∷ a_rest → right ≡ b ∷ b_rest →
    is_alike number_of a b ≡ false → are_alike number_of left right ≡ false
are_alike-apart number_of left right a b a_rest b_rest is_left is_right apart = rw (is_left, is_right, apart)

-- a list that has ended is like one that has ended too
pub are_alike-left_ended : {P : Type 0} (number_of : P → ℕ) (left right : List (Range P)) → length left ≡ 0 → (length right == 0) ≡ are_alike number_of left right
are_alike-left_ended number_of [] [] ended = refl
are_alike-left_ended number_of [] (b ∷ b_rest) ended = grind (arith, nat_tests)
are_alike-left_ended number_of (a ∷ a_rest) right ended = absurd (omega arith)

-- and not like one that goes on
pub are_alike-right_ended : {P : Type 0} (number_of : P → ℕ) (left right : List (Range P)) (a : Range P) (a_rest : List (Range P)) → left ≡ a ∷ a_rest → length right ≡ 0 →
    are_alike number_of left right ≡ false
are_alike-right_ended number_of left [] a a_rest is_left ended = rw is_left
are_alike-right_ended number_of left (b ∷ b_rest) a a_rest is_left ended = absurd (omega arith)
