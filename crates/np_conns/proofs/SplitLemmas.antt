-- Where printed texts are cut: at bytes that stand in none of the parts between them. For `read_run` and crates above.
use Rattle.std.proofs.Common.{◌≡◌, ℕ, zero, suc, ◌<◌, ◌≤◌, List, [], ◌∷◌, ◌++◌, Bool, true, false, not, ◌&&◌, eqb, length, get_or, Option, Some, None, refl, sym, ◌∙◌, ap, arith, decimal, unwrap_or, inl, inr, lit<, codes, append_assoc, append-nil, subst, map}
use Rattle.std.proofs.lemmas.Bool.{and_parts, and_from, not-true, not_from_false, ne_eqb, eqb-false, cond-true, cond-false, eq-eqb, cases_Bool, eqb-true, cond_both}
use Rattle.std.proofs.lemmas.Fmt.{decimal_is_IsNumeral}
use Rattle.std.proofs.lemmas.Str.Parse.{digit_from_value}
use Rattle.std.proofs.lemmas.Str.Pattern.{IsSplitOnceResult, split_after, split_parts}
use Rattle.std.specs.Borrow.{Bor}
use Rattle.std.specs.Int.{IsInRange}
use Rattle.std.specs.List.{slice_split, onto_first, flat_map, join_by, AllByRecursion}
use Rattle.std.specs.Str.Parse.{AllDigits}
use Rattle.np_conns.specs.Prelude.{IsRun, Range, run_text}

-- whether a byte stands nowhere in a text
abbrev pub lacks : ℕ → List ℕ → Bool
lacks c [] = true
lacks c (b ∷ bs) = not (eqb b c) && lacks c bs

pub lacks-append : (c : ℕ) (xs ys : List ℕ) → lacks c xs ≡ true → lacks c ys ≡ true → lacks c (xs ++ ys) ≡ true
lacks-append c [] ys front back = back
lacks-append c (x ∷ xs) ys front back =
    let parts = and_parts (not (eqb x c)) (lacks c xs) front in
    and_from _ _ parts.0 (lacks-append c xs ys parts.1 back)

pub lacks-at : (c : ℕ) (xs : List ℕ) → lacks c xs ≡ true → (i : ℕ) → i < length xs → get_or xs i 0 ≡ c → ⊥
lacks-at c [] free i within here = absurd (omega arith)
lacks-at c (x ∷ xs) free zero within here = eqb-false x c (not-true _ (and_parts (not (eqb x c)) (lacks c xs) free).0) here
lacks-at c (x ∷ xs) free (suc i) within here = lacks-at c xs (and_parts (not (eqb x c)) (lacks c xs) free).1 i (omega arith) here

-- no byte but a digit stands among digits
lacks-digits : (c : ℕ) (ds : List ℕ) → (IsInRange 48 57 c → ⊥) → AllDigits 10 ds → lacks c ds ≡ true
lacks-digits c [] other digits = refl
lacks-digits c (d ∷ ds) other digits =
    let digit = digit_from_value d digits.0 in
    and_from _ _ (not_from_false _ (ne_eqb d c (λ same. other (subst (IsInRange 48 57) same digit)))) (lacks-digits c ds other digits.1)

pub lacks-decimal : (c n : ℕ) → (IsInRange 48 57 c → ⊥) → n ≤ 65535 → lacks c (decimal n) ≡ true
lacks-decimal c n other small = lacks-digits c (decimal n) other (decimal_is_IsNumeral n (omega arith)).0.1

pub no_hyphen : (n : ℕ) → n ≤ 65535 → lacks 45 (decimal n) ≡ true
no_hyphen n small = lacks-decimal 45 n (λ digit. omega arith) small

-- a text cut at a byte that its first part lacks
pub slice_split-at : (c : ℕ) (xs ys : List ℕ) → lacks c xs ≡ true → slice_split (λ b. eqb b c) (xs ++ c ∷ ys) ≡ xs ∷ slice_split (λ b. eqb b c) ys
slice_split-at c [] ys free = cond-true _ _ _ (eq-eqb c c refl)
slice_split-at c (x ∷ xs) ys free =
    let parts = and_parts (not (eqb x c)) (lacks c xs) free in
    cond-false _ _ _ (not-true _ parts.0) ∙ ap (onto_first x) (slice_split-at c xs ys parts.1)

-- one that lacks the byte throughout is its one part
pub slice_split-whole : (c : ℕ) (xs : List ℕ) → lacks c xs ≡ true → slice_split (λ b. eqb b c) xs ≡ xs ∷ []
slice_split-whole c [] free = refl
slice_split-whole c (x ∷ xs) free =
    let parts = and_parts (not (eqb x c)) (lacks c xs) free in
    cond-false _ _ _ (not-true _ parts.0) ∙ ap (onto_first x) (slice_split-whole c xs parts.1)

-- pieces joined by a separator, cut at its first byte: all but the first keep the rest of it
slice_split-flat_map : {X : Type 0} (c : ℕ) (more : List ℕ) (f : X → List ℕ) (front : List ℕ) (xs : List X) → lacks c front ≡ true → AllByRecursion (λ x. lacks c (more ++ f x) ≡ true) xs →
    slice_split (λ b. eqb b c) (front ++ flat_map (λ x. (c ∷ more) ++ f x) xs) ≡ front ∷ map (λ x. more ++ f x) xs
slice_split-flat_map c more f front [] free all_free = rw append-nil (slice_split-whole c front free)
slice_split-flat_map c more f front (x ∷ xs) free all_free =
    slice_split-at c front ((more ++ f x) ++ flat_map (λ x. (c ∷ more) ++ f x) xs) free
    ∙ ap (λ parts. front ∷ parts) (slice_split-flat_map c more f (more ++ f x) xs all_free.0 all_free.1)

pub slice_split-join_by : {X : Type 0} (c : ℕ) (more : List ℕ) (f : X → List ℕ) (x : X) (xs : List X) → lacks c (f x) ≡ true → AllByRecursion (λ x. lacks c (more ++ f x) ≡ true) xs →
    slice_split (λ b. eqb b c) (join_by f (c ∷ more) (x ∷ xs)) ≡ f x ∷ map (λ x. more ++ f x) xs
slice_split-join_by c more f x xs = slice_split-flat_map c more f (f x) xs

-- a text with the byte in it does not lack it
lacks-not : (c : ℕ) (xs ys : List ℕ) → lacks c (xs ++ c ∷ ys) ≡ true → ⊥
lacks-not c [] ys free = eqb-false c c (not-true _ (and_parts (not (eqb c c)) (lacks c ys) free).0) refl
lacks-not c (x ∷ xs) ys free = lacks-not c xs ys (and_parts (not (eqb x c)) (lacks c (xs ++ c ∷ ys)) free).1

-- the text of a run of more ports has its `-` between the texts of its ends
pub run_text-long : (run : Range ℕ) → eqb run.lo run.hi ≡ false → run_text run ≡ decimal run.lo ++ 45 ∷ decimal run.hi
run_text-long run more = cond-false _ _ _ more ∙ append_assoc (decimal run.lo) (codes "-") (decimal run.hi)

-- a printed run, cut once at `-`, or taken twice where there is none, gives the texts of its ends
pub run_text-ends : (run : Range ℕ) (text : Bor (List ℕ)) (cut : Option (Bor (List ℕ) × Bor (List ℕ))) → IsRun run → text.now ≡ run_text run → IsSplitOnceResult 45 text.now cut →
    ((unwrap_or cut (text, text)).0.now ≡ decimal run.lo) × ((unwrap_or cut (text, text)).1.now ≡ decimal run.hi)
run_text-ends run text None real printed found =
    elim (cases_Bool (eqb run.lo run.hi)) [
      | inl one ↦
          let short : text.now ≡ decimal run.lo = printed ∙ cond-true _ _ _ one in
          (short, short ∙ ap decimal (eqb-true run.lo run.hi one))
      | inr more ↦
          absurd (split_after 45 text.now (decimal run.lo) (decimal run.hi) None found (lit< tt) (printed ∙ run_text-long run more) (lacks-at 45 (decimal run.lo) (no_hyphen run.lo (omega arith))))
    ]
run_text-ends run text (Some x) real printed found =
    elim (cases_Bool (eqb run.lo run.hi)) [
      | inl one ↦
          let short : text.now ≡ decimal run.lo = printed ∙ cond-true _ _ _ one in
          let parts = split_parts 45 text.now (Some x) found (lit< tt) in
          absurd (lacks-not 45 x.0.now x.1.now (ap (lacks 45) (sym parts.0 ∙ short) ∙ no_hyphen run.lo (omega arith)))
      | inr more ↦
          split_after 45 text.now (decimal run.lo) (decimal run.hi) (Some x) found (lit< tt) (printed ∙ run_text-long run more) (lacks-at 45 (decimal run.lo) (no_hyphen run.lo (omega arith)))
    ]

-- a printed run has digits and `-` alone
pub run_text-lacks : (c : ℕ) (run : Range ℕ) → (IsInRange 48 57 c → ⊥) → eqb 45 c ≡ false → IsRun run → lacks c (run_text run) ≡ true
run_text-lacks c run other no_hyphen real =
    let lo = lacks-decimal c run.lo other (omega arith) in
    let hi = lacks-decimal c run.hi other real.high in
    cond_both (eqb run.lo run.hi) _ _ (λ text. lacks c text ≡ true) (λ one. lo)
    (λ more. lacks-append c (decimal run.lo ++ codes "-") (decimal run.hi) (lacks-append c (decimal run.lo) (codes "-") lo (and_from _ _ (not_from_false _ no_hyphen) refl)) hi)
