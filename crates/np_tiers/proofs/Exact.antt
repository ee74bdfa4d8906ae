-- What the marks at each spot say of each entry. For `carve`.
use Rattle.std.proofs.Common.{◌≡◌, ◌≢◌, ◌⊎◌, ◌↔◌, ℕ, zero, suc, ◌<◌, Bool, true, false, IsTrue, List, [], ◌∷◌, ◌++◌, length, get_or, AllPairs, refl, sym, subst, ◌∙◌, inl, inr, arith}
use Rattle.std.proofs.lemmas.Bool.{cases_order}
use Rattle.np_tiers.specs.Prelude.{Mark, Marked, mark_if, marks_at}

-- the mark is among these
abbrev IsIn : Mark → List Mark → Type 0
IsIn m [] = ⊥
IsIn m (x ∷ xs) = (x ≡ m) ⊎ IsIn m xs

in_later : (b : Bool) (x : Mark) (xs : List Mark) (m : Mark) → IsIn m xs → IsIn m (mark_if b x ++ xs)
in_later true x xs m later = inr later
in_later false x xs m later = later

in_cases : (b : Bool) (x : Mark) (xs : List Mark) (m : Mark) → IsIn m (mark_if b x ++ xs) → ((b ≡ true) × (x ≡ m)) ⊎ IsIn m xs
in_cases true x xs m (inl same) = inl (refl, same)
in_cases true x xs m (inr later) = inr later
in_cases false x xs m later = inr later

in_one : (b : Bool) (x m : Mark) → IsIn m (mark_if b x) → (b ≡ true) × (x ≡ m)
in_one true x m (inl same) = (refl, same)
in_one true x m (inr none) = absurd none
in_one false x m none = absurd none

marks_at-cons : {S : Type 0} (at : S → Bool) (e : Marked S) (es : List (Marked S)) (b : Bool) → at e.set ≡ b → marks_at at (e ∷ es) ≡ mark_if b e.mark ++ marks_at at es
marks_at-cons at e es true has = rw has refl
marks_at-cons at e es false has = rw has refl

-- an entry that has the spot gives its mark
entry_gives : {S : Type 0} (at : S → Bool) (entries : List (Marked S)) (k : ℕ) (d : Marked S) → k < length entries → at (get_or entries k d).set ≡ true →
    IsIn (get_or entries k d).mark (marks_at at entries)
entry_gives at [] k d inside has = absurd (omega arith)
entry_gives at (e ∷ es) zero d inside has = rw (marks_at-cons at e es true has) (inl refl)
entry_gives at (e ∷ es) (suc k) d inside has =
    rw (marks_at-cons at e es (at e.set) refl) (in_later (at e.set) e.mark (marks_at at es) _ (entry_gives at es k d (omega arith) has))

-- the mark is given by an entry that has the spot
abbrev IsGiven : {S : Type 0} → (S → Bool) → List (Marked S) → Mark → Type 0
IsGiven {S} at entries m = (k : ℕ) × (k < length entries) × ((d : Marked S) → (at (get_or entries k d).set ≡ true) × ((get_or entries k d).mark ≡ m))

given_by_entry : {S : Type 0} (at : S → Bool) (entries : List (Marked S)) (m : Mark) → IsIn m (marks_at at entries) → IsGiven at entries m
given_by_entry at [] m is_in = absurd is_in
given_by_entry at (e ∷ es) m is_in =
    elim (in_cases (at e.set) e.mark (marks_at at es) m (rw (marks_at-cons at e es (at e.set) refl) at is_in)) [
      | inl here ↦ (0, omega arith, λ d. here)
      | inr later ↦ let given = given_by_entry at es m later in (suc given.0, omega arith, λ d. given.2 d)
    ]

-- Where the entries that have the spot give the spot's mark alone, if it is of the space, and all marks are distinct,
-- an entry has the spot exactly where its mark is the spot's.
pub exact_entry : {S : Type 0} (at : S → Bool) (entries : List (Marked S)) (inside : Bool) (mark : Mark) → marks_at at entries ≡ mark_if inside mark → AllPairs (λ a b. a.mark ≢ b.mark) entries →
    (k : ℕ) (d : Marked S) → k < length entries → IsTrue (at (get_or entries k d).set) ↔ (IsTrue inside × (mark ≡ (get_or entries k d).mark))
exact_entry {S} at entries inside mark marks distinct k d below = (
  λ has. in_one inside mark _ (rw marks at (entry_gives at entries k d below has)),
  λ decided.
      let is_in : IsIn mark (marks_at at entries) = rw (marks, decided.0) (inl refl) in
      let given = given_by_entry at entries mark is_in in
      let same : (get_or entries given.0 d).mark ≡ (get_or entries k d).mark = (given.2 d).1 ∙ decided.1 in
      elim (cases_order given.0 k) [
        | inl equal ↦ subst (λ (j : ℕ). at (get_or entries j d).set ≡ true) equal (given.2 d).0
        | inr apart ↦ elim apart [
          | inl before ↦ absurd (distinct given.0 k d before below same)
          | inr after ↦ absurd (distinct k given.0 d after given.1 (sym same))
        ]
      ],
)
