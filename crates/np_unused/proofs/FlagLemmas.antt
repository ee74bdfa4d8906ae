-- What setting a flag does to the others. For `Flags::set`.
use Rattle.std.proofs.Common.{◌≡◌, ◌≢◌, ℕ, zero, suc, ◌<◌, List, [], ◌∷◌, ◌++◌, Bool, true, false, ◌||◌, ◌&&◌, ◌==◌, length, get_or, set, Option, Some, Vec, refl, sym, ap, inl, inr, ◌∙◌, arith}
use Rattle.std.specs.List.{slice_get}
use Rattle.std.specs.Option.{option_map_or}
use Rattle.std.specs.declared.alloc.Global.{Global}
use Rattle.std.proofs.lemmas.Bool.Decides.{eqb_tells}
use Rattle.std.proofs.lemmas.Option.{slice_get_read}
use Rattle.std.proofs.Math.Bool.{or-false}
use Rattle.np_unused.specs.Prelude.{flag_in, flag_of}

-- a flag that is not set changes nothing
pub flag_of-push : (row : List Bool) (n : ℕ) → flag_of (row ++ false ∷ []) n ≡ flag_of row n
flag_of-push [] zero = refl
flag_of-push [] (suc n) = refl
flag_of-push (flag ∷ row) zero = refl
flag_of-push (flag ∷ row) (suc n) = flag_of-push row n

-- nor does an empty row
pub flag_in-push : (rows : List (Vec Bool Global)) (row : Vec Bool Global) → row.items ≡ [] → (p n : ℕ) → flag_in (rows ++ row ∷ []) p n ≡ flag_in rows p n
flag_in-push [] row empty zero n = ap (λ (flags : List Bool). flag_of flags n) empty
flag_in-push [] row empty (suc p) n = refl
flag_in-push (one ∷ rows) row empty zero n = refl
flag_in-push (one ∷ rows) row empty (suc p) n = flag_in-push rows row empty p n

-- ---- one flag is set

pub get-set_same : {X : Type 0} (xs : List X) (i : ℕ) (x : X) → i < length xs → slice_get (set xs i x) i ≡ Some x
get-set_same [] i x within = absurd (omega arith)
get-set_same (y ∷ xs) zero x within = refl
get-set_same (y ∷ xs) (suc i) x within = get-set_same xs i x (omega arith)

pub get-set_other : {X : Type 0} (xs : List X) (i j : ℕ) (x : X) → j ≢ i → slice_get (set xs i x) j ≡ slice_get xs j
get-set_other [] i j x other = refl
get-set_other (y ∷ xs) zero zero x other = absurd (other refl)
get-set_other (y ∷ xs) zero (suc j) x other = refl
get-set_other (y ∷ xs) (suc i) zero x other = refl
get-set_other (y ∷ xs) (suc i) (suc j) x other = get-set_other xs i j x (λ same. other (omega arith))

pub flag_in-set : (rows : List (Vec Bool Global)) (policy place : ℕ) (old row : Vec Bool Global) → policy < length rows → old ≡ get_or rows policy old →
    ((n : ℕ) → flag_of row.items n ≡ (flag_of old.items n || n == place)) → (p n : ℕ) → flag_in (set rows policy row) p n ≡ (flag_in rows p n || (p == policy && n == place))
flag_in-set rows policy place old row within is sets p n =
    elim (eqb_tells p policy) [ inl same ↦ here same.0 same.1 | inr other ↦ there other.0 other.1 ]
  where
    read : Option (Vec Bool Global) → Bool
    read found = option_map_or (λ (one : Vec Bool Global). flag_of one.items n) found false

    here : p == policy ≡ true → p ≡ policy → flag_in (set rows policy row) p n ≡ (flag_in rows p n || (p == policy && n == place))
    here test same =
        rw (test, same) (ap read (get-set_same rows policy row within) ∙ sets n ∙ ap (λ (b : Bool). b || n == place) (sym (ap read (slice_get_read rows (length rows) policy old refl within is))))

    there : p == policy ≡ false → p ≢ policy → flag_in (set rows policy row) p n ≡ (flag_in rows p n || (p == policy && n == place))
    there test other = rw test (ap read (get-set_other rows policy p row other) ∙ sym (or-false (flag_in rows p n)))
