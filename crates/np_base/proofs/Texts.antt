-- Bytes of texts. For crates above.
use Rattle.std.proofs.Common.{◌≡◌, ℕ, List, [], ◌∷◌, true, nat_lt, IsUtf8, get_or, false, ◌==◌, sym, ap, ◌∙◌, ◌<◌, ◌≤◌, arith}
use Rattle.std.proofs.lemmas.Str.{IsUtf8-append, IsUtf8-from_ascii}
use Rattle.std.proofs.lemmas.Bool.{eqb-false, ltb-true}
use Rattle.std.specs.Char.{digit_value}
use Rattle.std.proofs.lemmas.Str.Ascii.{IsAscii-cons, IsAscii-nil}

-- one byte below 128 more, in front
pub IsUtf8-byte : (x : ℕ) → nat_lt x 128 ≡ true → (s : List ℕ) → IsUtf8 s → IsUtf8 (x ∷ s)
IsUtf8-byte x small s utf8 = IsUtf8-append (x ∷ []) s (IsUtf8-from_ascii (x ∷ []) (IsAscii-cons x [] (ltb-true x 128 small) IsAscii-nil)) utf8

-- a text that tells two apart
pub texts-apart : (place x y : ℕ) (text text' : List ℕ) → text ≡ text' → get_or text place 0 ≡ x → get_or text' place 0 ≡ y → (x == y) ≡ false → ⊥
texts-apart place x y text text' same first second differ = eqb-false x y differ (sym first ∙ ap (λ (t : List ℕ). get_or t place 0) same ∙ second)

-- the bytes of digits
pub digit_range : (d : ℕ) → digit_value d < 10 → (48 ≤ d) × (d ≤ 57)
digit_range d h = grind arith
