-- When requirements and rows are equal. For `LentSame::is_same` and `OpenRowSame::is_same`.
use Rattle.std.proofs.Common.{◌≡◌, ◌≢◌, ℕ, List, Bool, true, false, MatchBool, reverse, refl, sym, ap, ◌∙◌, subst}
use Rattle.std.specs.Cmp.Lexicographic.{bytes_decides}
use Rattle.std.proofs.lemmas.Bool.{and_parts, and_from, false≢true, true≢false}
use Rattle.std.proofs.lemmas.List.{reverse-reverse}
use Rattle.std.specs.Str.{bytes_eq}
use lib.Pointwise.{pointwise, pointwise_decides}
use mathlib.Core.Bool.{Bool-set}
use Rattle.np_exposure.specs.Prelude.{Absent, ExposureRow, Namespace, NoneOf, OneOf, Op, Pod, Present, Requirement, Side, SidedRequirement, is_same, same_op, same_side}
use Rattle.np_labels.specs.Prelude.{is_ascending}

-- ---- requirements

-- that values ascend is one fact, however it is shown
pub requirement-equal : (a b : Requirement) → a.key ≡ b.key → a.op ≡ b.op → a.values ≡ b.values → a ≡ b
requirement-equal a b key op values =
    let P : List (List ℕ) → Type 0 = λ vs. (ascending : is_ascending vs ≡ true) → a ≡ record { key = a.key; op = a.op; values = vs; ascending = ascending } in
    let here : P a.values = λ ascending. ap (λ (p : is_ascending a.values ≡ true). record { key = a.key; op = a.op; values = a.values; ascending = p })
    (Bool-set (is_ascending a.values) true a.ascending ascending) in
    subst P values here b.ascending
    ∙ ap (λ (k : List ℕ). record { key = k; op = a.op; values = b.values; ascending = b.ascending }) key
    ∙ ap (λ (o : Op). record { key = b.key; op = o; values = b.values; ascending = b.ascending }) op

pub same_side-equal : (a b : Side) → same_side a b ≡ true → a ≡ b
same_side-equal Namespace Namespace is = refl
same_side-equal Pod Pod is = refl
same_side-equal Namespace Pod is = absurd (false≢true is)
same_side-equal Pod Namespace is = absurd (false≢true is)

pub same_side-refl : (a : Side) → same_side a a ≡ true
same_side-refl Namespace = refl
same_side-refl Pod = refl

same_op-equal : (a b : Op) → same_op a b ≡ true → a ≡ b
same_op-equal OneOf OneOf is = refl
same_op-equal NoneOf NoneOf is = refl
same_op-equal Present Present is = refl
same_op-equal Absent Absent is = refl
same_op-equal OneOf NoneOf is = absurd (false≢true is)
same_op-equal OneOf Present is = absurd (false≢true is)
same_op-equal OneOf Absent is = absurd (false≢true is)
same_op-equal NoneOf OneOf is = absurd (false≢true is)
same_op-equal NoneOf Present is = absurd (false≢true is)
same_op-equal NoneOf Absent is = absurd (false≢true is)
same_op-equal Present OneOf is = absurd (false≢true is)
same_op-equal Present NoneOf is = absurd (false≢true is)
same_op-equal Present Absent is = absurd (false≢true is)
same_op-equal Absent OneOf is = absurd (false≢true is)
same_op-equal Absent NoneOf is = absurd (false≢true is)
same_op-equal Absent Present is = absurd (false≢true is)

same_op-refl : (a : Op) → same_op a a ≡ true
same_op-refl OneOf = refl
same_op-refl NoneOf = refl
same_op-refl Present = refl
same_op-refl Absent = refl

texts_decide : (xs ys : List (List ℕ)) → (pointwise bytes_eq xs ys ≡ true → xs ≡ ys) × (xs ≡ ys → pointwise bytes_eq xs ys ≡ true)
texts_decide = pointwise_decides bytes_decides

pub sided-equal : (a b : SidedRequirement) → a.side ≡ b.side → a.requirement ≡ b.requirement → a ≡ b
sided-equal a b side requirement = ap (λ (s : Side). record { side = s; requirement = a.requirement }) side ∙ ap (λ (r : Requirement). record { side = b.side; requirement = r }) requirement

-- the test tells equal requirements
pub is_same-equal : (a b : SidedRequirement) → is_same a b ≡ true → a ≡ b
is_same-equal a b is =
    let first = and_parts (same_side a.side b.side) _ is in
    let second = and_parts (bytes_eq a.requirement.key b.requirement.key) _ first.1 in
    let third = and_parts (same_op a.requirement.op b.requirement.op) _ second.1 in
    sided-equal a b (same_side-equal a.side b.side first.0)
    (requirement-equal a.requirement b.requirement ((bytes_decides a.requirement.key b.requirement.key).0 second.0) (same_op-equal a.requirement.op b.requirement.op third.0)
    ((texts_decide a.requirement.values b.requirement.values).0 third.1))

pub is_same-refl : (a : SidedRequirement) → is_same a a ≡ true
is_same-refl a =
    and_from (same_side a.side a.side) _ (same_side-refl a.side)
    (and_from (bytes_eq a.requirement.key a.requirement.key) _ ((bytes_decides a.requirement.key a.requirement.key).1 refl)
    (and_from (same_op a.requirement.op a.requirement.op) _ (same_op-refl a.requirement.op) ((texts_decide a.requirement.values a.requirement.values).1 refl)))

pub is_same-tells : (a b : SidedRequirement) (answer : Bool) → answer ≡ is_same a b → MatchBool answer (a ≡ b) (a ≢ b)
is_same-tells a b true is = is_same-equal a b (sym is)
is_same-tells a b false is = λ equal. false≢true (is ∙ subst (λ (x : SidedRequirement). is_same a x ≡ true) equal (is_same-refl a))

-- ---- rows

-- rows whose requirements differ backwards differ
pub rows-apart : (a b : ExposureRow) (xs ys : List SidedRequirement) → reverse xs ≡ a.requirements → reverse ys ≡ b.requirements → xs ≢ ys → a ≢ b
rows-apart a b xs ys first second apart equal =
    let same : reverse xs ≡ reverse ys = first ∙ ap (λ (row : ExposureRow). row.requirements) equal ∙ sym second in
    apart (sym (reverse-reverse xs) ∙ ap (λ (all : List SidedRequirement). reverse all) same ∙ reverse-reverse ys)

pub rows-differ : (a b : ExposureRow) (xs ys seen other : List SidedRequirement) (answer : Bool) → answer ≡ false → MatchBool answer (seen ≡ other) (seen ≢ other) → seen ≡ xs → other ≡ ys →
    reverse xs ≡ a.requirements → reverse ys ≡ b.requirements → MatchBool answer (a ≡ b) (a ≢ b)
rows-differ a b xs ys seen other true differ tells first second one two = absurd (true≢false differ)
rows-differ a b xs ys seen other false differ tells first second one two = rows-apart a b xs ys one two (λ equal. tells (first ∙ equal ∙ sym second))
