-- Texts cut at marks: what is made at some place of a mark is found, and nothing else. For GrammarLemmas, LineLemmas and crates above.
use Rattle.std.proofs.Common.{◌≡◌, ℕ, ◌==◌, List, [], ◌∷◌, ◌++◌, Bool, true, false, Option, Some, None, is_some, refl, sym, ap, ◌∙◌, inl, inr, if◌then◌else◌}
use Rattle.std.specs.Option.{option_and_then, option_or}
use Rattle.std.proofs.lemmas.Bool.{eq-eqb, eqb-true, true≢false}
use Rattle.std.proofs.lemmas.Option.{none-some, same_Some}
use Rattle.np_check.proofs.FirstLemmas.{first_of-map, from_either, none_both}
use Rattle.np_statements.specs.Prelude.{Lacks, behind, first_cut, halves, has_mark}

-- ---- beginnings

-- what is there under a test is there
pub if_some : {Y : Type 0} (test : Bool) (found : Option Y) (y : Y) → (if test then found else None) ≡ Some y → (test ≡ true) × (found ≡ Some y)
if_some true found y is = (refl, is)
if_some false found y is = absurd (none-some y is)

-- what stands behind a beginning is found
pub behind-append : (beginning text : List ℕ) → behind beginning (beginning ++ text) ≡ Some text
unfolding behind
behind-append [] text = refl
behind-append (byte ∷ beginning) text = rw (eq-eqb byte byte refl) (behind-append beginning text)

-- and what is found stands behind it
pub behind-is : (beginning text rest : List ℕ) → behind beginning text ≡ Some rest → text ≡ beginning ++ rest
unfolding behind
behind-is [] text rest is = same_Some text rest is
behind-is (byte ∷ beginning) [] rest is = absurd (none-some rest is)
behind-is (byte ∷ beginning) (first ∷ text) rest is =
    let parts = if_some (first == byte) (behind beginning text) rest is in
    ap (λ (b : ℕ). b ∷ text) (eqb-true first byte parts.0) ∙ ap (λ (bs : List ℕ). byte ∷ bs) (behind-is beginning text rest parts.1)

-- what is made of what stands behind a beginning
pub then_some : {X Y : Type 0} (make : X → Option Y) (found : Option X) (y : Y) → option_and_then make found ≡ Some y → (x : X) × (found ≡ Some x) × (make x ≡ Some y)
then_some make None y is = absurd (none-some y is)
then_some make (Some x) y is = (x, refl, is)

-- ---- cuts

-- at the first place of a text, or further on
first_cut-cons : {Y : Type 0} (mark : List ℕ) (make : List ℕ → List ℕ → Option Y) (byte : ℕ) (text : List ℕ) →
    first_cut mark make (byte ∷ text) ≡ option_or (option_and_then (make []) (behind mark (byte ∷ text))) (first_cut mark (λ before. make (byte ∷ before)) text)
unfolding first_cut halves
first_cut-cons {Y} mark make byte text =
    let gives : List ℕ × List ℕ → Option Y = λ half. option_and_then (make half.0) (behind mark half.1) in
    let on : List ℕ × List ℕ → List ℕ × List ℕ = λ half. (byte ∷ half.0, half.1) in
    ap (option_or (option_and_then (make []) (behind mark (byte ∷ text)))) (first_of-map gives on (halves text))

-- the text is cut at the mark into parts of which that is made
pub record IsCut {Y : Type 0} (mark : List ℕ) (make : List ℕ → List ℕ → Option Y) (text : List ℕ) (y : Y) : Type 0 where
  pub before : List ℕ
  pub after : List ℕ
  pub spelled : text ≡ before ++ (mark ++ after)
  pub made : make before after ≡ Some y

here : {Y : Type 0} (mark : List ℕ) (make : List ℕ → List ℕ → Option Y) (text : List ℕ) (y : Y) → option_and_then (make []) (behind mark text) ≡ Some y → IsCut mark make text y
here mark make text y is =
    let (after, stands, made) = then_some (make []) (behind mark text) y is in
    record { before = []; after = after; spelled = behind-is mark text after stands; made = made }

further : {Y : Type 0} (mark : List ℕ) (make : List ℕ → List ℕ → Option Y) (byte : ℕ) (text : List ℕ) (y : Y) → IsCut mark (λ before. make (byte ∷ before)) text y → IsCut mark make (byte ∷ text) y
further mark make byte text y cut =
    record { before = byte ∷ cut.before; after = cut.after; spelled = ap (λ (bs : List ℕ). byte ∷ bs) cut.spelled; made = cut.made }

-- what is made first is made of a cut
pub first_cut-some : {Y : Type 0} (mark : List ℕ) (make : List ℕ → List ℕ → Option Y) (text : List ℕ) (y : Y) → first_cut mark make text ≡ Some y → IsCut mark make text y
unfolding first_cut halves
first_cut-some mark make [] y is =
    elim (from_either (option_and_then (make []) (behind mark [])) None y is) [
      | inl at ↦ here mark make [] y at
      | inr none ↦ absurd (none-some y none)
    ]
first_cut-some mark make (byte ∷ text) y is =
    elim (from_either (option_and_then (make []) (behind mark (byte ∷ text))) (first_cut mark (λ before. make (byte ∷ before)) text) y (sym (first_cut-cons mark make byte text) ∙ is)) [
      | inl at ↦ here mark make (byte ∷ text) y at
      | inr later ↦ further mark make byte text y (first_cut-some mark (λ before. make (byte ∷ before)) text y later)
    ]

none_here : {Y : Type 0} (mark : List ℕ) (make : List ℕ → List ℕ → Option Y) (text : List ℕ) → first_cut mark make text ≡ None → option_and_then (make []) (behind mark text) ≡ None
unfolding first_cut halves
none_here mark make [] none = (none_both (option_and_then (make []) (behind mark [])) None none).0
none_here mark make (byte ∷ text) none =
    (none_both (option_and_then (make []) (behind mark (byte ∷ text))) (first_cut mark (λ before. make (byte ∷ before)) text) (sym (first_cut-cons mark make byte text) ∙ none)).0

-- where nothing is made, nothing is made of any cut
pub first_cut-none : {Y : Type 0} (mark : List ℕ) (make : List ℕ → List ℕ → Option Y) (before after : List ℕ) → first_cut mark make (before ++ (mark ++ after)) ≡ None → make before after ≡ None
first_cut-none mark make [] after none =
    sym (ap (option_and_then (make [])) (behind-append mark after)) ∙ none_here mark make (mark ++ after) none
first_cut-none mark make (byte ∷ before) after none =
    first_cut-none mark (λ bs. make (byte ∷ bs)) before after
    (none_both (option_and_then (make []) (behind mark (byte ∷ (before ++ (mark ++ after))))) (first_cut mark (λ bs. make (byte ∷ bs)) (before ++ (mark ++ after)))
    (sym (first_cut-cons mark make byte (before ++ (mark ++ after))) ∙ none)).1

-- ---- marks

-- a text that lacks a mark is one without it
pub lacks-by : (mark text : List ℕ) → has_mark mark text ≡ false → Lacks text mark
unfolding has_mark
lacks-by mark text lacks = λ before after spelled.
    let none : first_cut mark (λ front rest. Some rest) text ≡ None = is_none (first_cut mark (λ front rest. Some rest) text) lacks in
    none-some after (sym (first_cut-none mark (λ front rest. Some rest) before after (ap (first_cut mark (λ front rest. Some rest)) (sym spelled) ∙ none)))
  where
    is_none : (found : Option (List ℕ)) → is_some found ≡ false → found ≡ None
    is_none None lacks = refl
    is_none (Some rest) has = absurd (true≢false has)

pub by-lacks : (mark text : List ℕ) → Lacks text mark → has_mark mark text ≡ false
unfolding has_mark
by-lacks mark text lacks = is_not (first_cut mark (λ front rest. Some rest) text) refl
  where
    is_not : (found : Option (List ℕ)) → first_cut mark (λ front rest. Some rest) text ≡ found → is_some found ≡ false
    is_not None is = refl
    is_not (Some rest) is = let cut = first_cut-some mark (λ front behind. Some behind) text rest is in absurd (lacks cut.before cut.after cut.spelled)
