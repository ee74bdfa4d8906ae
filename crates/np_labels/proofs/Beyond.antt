-- A text above all texts of a list. For `text_outside`.
use Rattle.std.proofs.Common.{◌≡◌, ℕ, List, [], ◌∷◌, ◌++◌, Bool, true, false, refl, sym, ap, ◌∙◌}
use Rattle.std.specs.declared.cmp.Ordering.TheVariants.{Less}
use Rattle.std.specs.Ordering.{nat_cmp, is_eq, is_lt}
use Rattle.std.specs.Cmp.{nat_cmp_total}
use Rattle.std.specs.Cmp.Lexicographic.{slice_cmp, bytes_decides}
use Rattle.std.specs.List.{All, list_any}
use Rattle.std.specs.Str.{bytes_eq}
use Rattle.std.proofs.lemmas.Cmp.{tied_itself}
use Rattle.std.proofs.lemmas.List.Elements.{All-weaker}
use Rattle.std.proofs.lemmas.List.Folds.{list_any_none}
use Rattle.std.proofs.lemmas.Map.Text.{is_eq-slice_cmp}

-- a text is below itself with a letter more
below_longer : (text : List ℕ) (letter : ℕ) → slice_cmp nat_cmp text (text ++ letter ∷ []) ≡ Less
below_longer [] letter = refl
below_longer (byte ∷ text) letter = rw (tied_itself nat_cmp_total byte) (below_longer text letter)

-- a text that is not above another differs from it once it has a letter more
longer_differs : (greatest other : List ℕ) (letter : ℕ) → is_lt (slice_cmp nat_cmp greatest other) ≡ false → is_eq (slice_cmp nat_cmp (greatest ++ letter ∷ []) other) ≡ false
longer_differs greatest other letter not_above = is_eq-slice_cmp longer other ∙ by (bytes_eq longer other) refl
  where
    longer : List ℕ
    longer = greatest ++ letter ∷ []

    by : (b : Bool) → bytes_eq longer other ≡ b → b ≡ false
    by false is = refl
    by true is =
        let same = (bytes_decides longer other).0 is in
        let below = ap is_lt (sym (ap (slice_cmp nat_cmp greatest) same) ∙ below_longer greatest letter) in
        cc

-- the greatest text of a list, with a letter more, is not in the list
pub greatest_longer : (texts : List (List ℕ)) (greatest : List ℕ) (letter : ℕ) → All (λ other. is_lt (slice_cmp nat_cmp greatest other) ≡ false) texts →
    list_any (λ other. is_eq (slice_cmp nat_cmp (greatest ++ letter ∷ []) other)) texts ≡ false
greatest_longer texts greatest letter all =
    list_any_none _ texts (All-weaker (λ other. is_lt (slice_cmp nat_cmp greatest other) ≡ false) (λ other. is_eq (slice_cmp nat_cmp (greatest ++ letter ∷ []) other) ≡ false)
    (λ other. longer_differs greatest other letter) texts all)
