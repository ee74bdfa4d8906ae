-- Rows that wait. For `all_joined`.
use Rattle.std.proofs.Common.{List, [], ◌∷◌, ◌++◌, refl, sym, subst}
use Rattle.np_exposure.specs.Prelude.{ExposureRow, Fills, IsJoinedBy, Pending}

-- the last that waits is filled first
pub Fills-push : (before : List Pending) (last : Pending) (rows inner made : List ExposureRow) → IsJoinedBy last.requirement.now last.wanted last.rows.items rows inner → Fills before inner made →
    Fills (before ++ last ∷ []) rows made
Fills-push [] last rows inner made joined fills =
    (rows, refl, subst (λ (all : List ExposureRow). IsJoinedBy last.requirement.now last.wanted last.rows.items rows all) (sym fills) joined)
Fills-push (pending ∷ before) last rows inner made joined fills = (fills.0, Fills-push before last rows inner fills.0 joined fills.1, fills.2)

-- and so what fills all is filled by the rows that it is joined to
pub Fills-last : (before : List Pending) (last : Pending) (rows made : List ExposureRow) → Fills (before ++ last ∷ []) rows made →
    (inner : List ExposureRow) × IsJoinedBy last.requirement.now last.wanted last.rows.items rows inner × Fills before inner made
Fills-last [] last rows made fills =
    (made, subst (λ (all : List ExposureRow). IsJoinedBy last.requirement.now last.wanted last.rows.items all made) fills.1 fills.2, refl)
Fills-last (pending ∷ before) last rows made fills =
    let rest = Fills-last before last rows fills.0 fills.1 in
    (rest.0, rest.1, (fills.0, rest.2, fills.2))
