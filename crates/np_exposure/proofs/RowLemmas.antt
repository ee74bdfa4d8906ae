-- When rows are equal. For LeftLemmas.
use Rattle.std.proofs.Common.{◌≡◌, List, Bool, true, false, refl, sym, ap, ◌∙◌, subst}
use Rattle.std.specs.Cmp.Lexicographic.{pointwise}
use Rattle.std.proofs.lemmas.Bool.{and_parts, and_from, false≢true}
use lib.Pointwise.{pointwise_decides}
use Rattle.np_conns.specs.Prelude.{Conns, are_same_conns}
use Rattle.np_conns.proofs.ConnLemmas.{are_same_conns-Decides}
use Rattle.np_exposure.specs.Prelude.{ExposureRow, IsJoined, SidedRequirement, apart, are_same_row, are_same_rows, equal, is_same, joined_rows}
use Rattle.np_exposure.proofs.SameLemmas.{is_same-equal, is_same-refl}

-- ---- equal rows

-- the test tells whether two values are equal
abbrev Tells : {X : Type 0} → (X → X → Bool) → X → X → Type 0
Tells test a b = (test a b ≡ true → a ≡ b) × (a ≡ b → test a b ≡ true)

requirements-tell : (a b : SidedRequirement) → Tells is_same a b
requirements-tell a b = (is_same-equal a b, λ equal. subst (λ (x : SidedRequirement). is_same a x ≡ true) equal (is_same-refl a))

row-tell : (a b : ExposureRow) → Tells are_same_row a b
row-tell a b =
    let requirements = pointwise_decides requirements-tell a.requirements b.requirements in
    let conns = are_same_conns-Decides a.conns b.conns in (
      λ same.
          let both = and_parts (pointwise is_same a.requirements b.requirements) (are_same_conns a.conns b.conns) same in
          ap (λ (asked : List SidedRequirement). record { requirements = asked; conns = a.conns }) (requirements.0 both.0) ∙ ap (λ (c : Conns). record { requirements = b.requirements; conns = c })
          (conns.0 both.1),
      λ equal. and_from _ _ (requirements.1 (ap (λ (row : ExposureRow). row.requirements) equal)) (conns.1 (ap (λ (row : ExposureRow). row.conns) equal)),
    )

rows-tell : (these those : List ExposureRow) → Tells are_same_rows these those
rows-tell = pointwise_decides row-tell

-- the rows of both cases, put together by the test
pub IsJoined-joined : (asked : SidedRequirement) (met unmet : List ExposureRow) → IsJoined asked met unmet (joined_rows asked met unmet)
IsJoined-joined asked met unmet = by (are_same_rows met unmet) refl
  where
    tells : Tells are_same_rows met unmet
    tells = rows-tell met unmet

    by : (b : Bool) → are_same_rows met unmet ≡ b → IsJoined asked met unmet (joined_rows asked met unmet)
    by true same = equal (tells.0 same) (rw same refl)
    by false differ = apart (λ is. false≢true (sym differ ∙ tells.1 is)) (rw differ refl)
