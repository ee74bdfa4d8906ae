-- The pigeonhole principle. For Ends.
use Rattle.std.proofs.Common.{◌≡◌, ◌≢◌, ◌⊎◌, inl, inr, ℕ, zero, suc, ◌<◌, ◌≤◌, cond, nat_eq, refl, sym, ◌∙◌, arith}
use Rattle.std.proofs.lemmas.Bool.Decides.{eqb_tells}

-- the numbers below n are sent to numbers below m
abbrev pub IsInto : (ℕ → ℕ) → ℕ → ℕ → Type 0
IsInto f n m = (i : ℕ) → i < n → f i < m

-- different numbers below n are sent to different numbers
abbrev pub IsOneToOne : (ℕ → ℕ) → ℕ → Type 0
IsOneToOne f n = (i j : ℕ) → i < n → j < n → f i ≡ f j → i ≡ j

-- what is sent to m goes where the last number goes
abbrev avoiding : (ℕ → ℕ) → ℕ → ℕ → ℕ → ℕ
avoiding f m last i = cond (nat_eq (f i) m) (f last) (f i)

avoids : (x m y : ℕ) → ((x ≡ m) × (cond (nat_eq x m) y x ≡ y)) ⊎ ((x ≢ m) × (cond (nat_eq x m) y x ≡ x))
avoids x m y = elim (eqb_tells x m) [ inl w ↦ inl (w.1, rw w.0 refl) | inr w ↦ inr (w.1, rw w.0 refl) ]

into_less : (f : ℕ → ℕ) (n m : ℕ) → IsInto f (suc n) (suc m) → IsOneToOne f (suc n) → IsInto (avoiding f m n) n m
into_less f n m into one i below =
    let here = into i (omega arith) in
    let last = into n (omega arith) in
    let apart : f i ≢ f n = λ same. let equal = one i n (omega arith) (omega arith) same in omega arith in
    elim (avoids (f i) m (f n)) [ inl w ↦ omega (arith, w.0, w.1) | inr w ↦ omega (arith, w.0, w.1) ]

one_less : (f : ℕ → ℕ) (n m : ℕ) → IsOneToOne f (suc n) → IsOneToOne (avoiding f m n) n
one_less f n m one i j p q same =
    elim (avoids (f i) m (f n)) [
      | inl v ↦ elim (avoids (f j) m (f n)) [
        | inl w ↦ one i j (omega arith) (omega arith) (v.0 ∙ sym w.0)
        | inr w ↦ let equal = one n j (omega arith) (omega arith) (sym v.1 ∙ same ∙ w.1) in absurd (omega arith)
      ]
      | inr v ↦ elim (avoids (f j) m (f n)) [
        | inl w ↦ let equal = one i n (omega arith) (omega arith) (sym v.1 ∙ same ∙ w.1) in absurd (omega arith)
        | inr w ↦ one i j (omega arith) (omega arith) (sym v.1 ∙ same ∙ w.1)
      ]
    ]

-- n different numbers below m are at most m
pub pigeonhole : (n m : ℕ) (f : ℕ → ℕ) → IsInto f n m → IsOneToOne f n → n ≤ m
pigeonhole zero m f into one = omega arith
pigeonhole (suc n) zero f into one = absurd (omega (arith, into n (omega arith)))
pigeonhole (suc n) (suc m) f into one = omega (arith, pigeonhole n m (avoiding f m n) (into_less f n m into one) (one_less f n m one))
