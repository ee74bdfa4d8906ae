-- Rows without and with the name of their workload. For `rows_at`.
use Rattle.std.proofs.Common.{◌≡◌, ℕ, List, [], ◌∷◌, map, refl, ap, ◌∙◌}
use Rattle.np_command_exposure.specs.Report.{exposure_row_text, pod_side, side_rows}
use Rattle.np_command_exposure.specs.steps.Known.{named_row, peer_row, peer_rows}
use Rattle.np_command_exposure.specs.Types.{Direction, Egress, EstateLists, ExposureRow, Ingress, PeerRow, RowText, ShownSide}
use Rattle.np_exposure.specs.Prelude.{rows_of}
use Rattle.np_fold.specs.Prelude.{folding_of, name_of_workload}
use Rattle.np_kinds.specs.Prelude.{source_pod}
use Rattle.np_rules.specs.Prelude.{side_of}

-- a row with its name put in is the row
named-each : (name : List ℕ) (direction : Direction) (rows : List ExposureRow) → map (named_row name direction) (map peer_row rows) ≡ map (exposure_row_text name direction) rows
named-each name direction [] = refl
named-each name Ingress (row ∷ rows) = ap (λ (rest : List RowText). exposure_row_text name Ingress row ∷ rest) (named-each name Ingress rows)
named-each name Egress (row ∷ rows) = ap (λ (rest : List RowText). exposure_row_text name Egress row ∷ rest) (named-each name Egress rows)

pub side-named : (lists : EstateLists) (shown : ShownSide) (name : List ℕ) (rows : List PeerRow) (texts : List RowText) → name ≡ name_of_workload (folding_of lists) shown.workload →
    rows ≡ peer_rows (pod_side lists shown) → texts ≡ map (named_row name shown.direction) rows → texts ≡ side_rows lists shown
unfolding side_rows
side-named lists shown name rows texts named are is =
    is ∙ ap (λ (n : List ℕ). map (named_row n shown.direction) rows) named
    ∙ ap (map (named_row (name_of_workload (folding_of lists) shown.workload) shown.direction)) are
    ∙ named-each (name_of_workload (folding_of lists) shown.workload) shown.direction (rows_of (pod_side lists shown))

-- the rows of a workload's first pod are those of the workload
pub rows-shown : (lists known : EstateLists) (shown : ShownSide) (place : ℕ) (rows : List PeerRow) → known ≡ lists → place ≡ source_pod (folding_of lists) shown.workload →
    rows ≡ peer_rows (side_of known place shown.direction) → rows ≡ peer_rows (pod_side lists shown)
rows-shown lists known shown place rows same first is =
    is ∙ ap (λ (all : EstateLists). peer_rows (side_of all place shown.direction)) same ∙ ap (λ (p : ℕ). peer_rows (side_of lists p shown.direction)) first
