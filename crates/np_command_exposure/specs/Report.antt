-- `exposure`: what pods that nobody has written yet could send to workloads, and be sent by them.
use Rattle.std.specs.Prelude.{ℕ, ◌-◌, ◌^◌, List, [], ◌∷◌, flat_map, map, min, nat_lt, Option, Some, None, Result, Ok, Err, ⊤, if◌then◌else◌}
use Rattle.std.specs.List.{range_with_len}
use Rattle.np_command.specs.Prelude.{or_unknown}
use Rattle.np_command_exposure.specs.Types.{Direction, Egress, EstateLists, ExposureRow, Fault, Format, Ingress, RowText, ShownSide, TooManyPatterns}
use Rattle.np_conns.specs.Prelude.{conns_text, has_spot}
use Rattle.np_exposure.specs.Prelude.{mentions, peer_text, rows_of, weight}
use Rattle.np_exposure.specs.declared.exposures.TheConstants.{MOST_PATTERNS}
use Rattle.np_fold.specs.Prelude.{folding_of, name_of_workload, number_named}
use Rattle.np_report.specs.Prelude.{report_text}
use Rattle.np_rules.specs.Prelude.{PodSide, side_of}
use Rattle.np_kinds.specs.Prelude.{number_of_workloads, source_pod}

-- ---- what is shown

-- both directions of a workload, that of ingress first
abbrev pub both_sides : ℕ → List ShownSide
both_sides workload = record { workload = workload; direction = Ingress } ∷ record { workload = workload; direction = Egress } ∷ []

-- both directions of all workloads in their order, or of the one of a name
unfoldable pub sides_shown : Option (List ℕ) → EstateLists → Result (List ShownSide) Fault
sides_shown None lists = Ok (flat_map both_sides (range_with_len 0 (number_of_workloads lists)))
sides_shown (Some name) lists = or_unknown name both_sides (number_named (folding_of lists) name)

-- the side of the first pod of a workload, which stands for it
abbrev pub pod_side : EstateLists → ShownSide → PodSide
pod_side lists shown = side_of lists (source_pod (folding_of lists) shown.workload) shown.direction

-- ---- how much of it

-- how many patterns of labels the requirements may tell apart that are mentioned there
abbrev pub weight_at : EstateLists → ShownSide → ℕ
weight_at lists shown = weight (mentions (pod_side lists shown))

-- The fault that there are too many, with their number as far as 64 bits say it.
unfoldable pub weight_fault : EstateLists → ShownSide → Option Fault
weight_fault lists shown =
    if nat_lt MOST_PATTERNS (weight_at lists shown)
    then Some (TooManyPatterns (name_of_workload (folding_of lists) shown.workload) shown.direction (min (weight_at lists shown) (2 ^ 64 - 1)))
    else None

-- the first fault of some sides
abbrev pub or_later : Option Fault → Option Fault → Option Fault
or_later (Some fault) later = Some fault
or_later None later = later

abbrev pub first_fault : EstateLists → List ShownSide → Option Fault
first_fault lists [] = None
first_fault lists (shown ∷ others) = or_later (weight_fault lists shown) (first_fault lists others)

-- ---- text

-- A row of a side: those that the workload is sent by stand before it, and those that it sends to behind it.
abbrev pub exposure_row_text : List ℕ → Direction → ExposureRow → RowText
exposure_row_text name Ingress row = record { source = peer_text row.requirements; destination = name; connections = conns_text (has_spot row.conns) }
exposure_row_text name Egress row = record { source = name; destination = peer_text row.requirements; connections = conns_text (has_spot row.conns) }

-- the rows of a side
unfoldable pub side_rows : EstateLists → ShownSide → List RowText
side_rows lists shown = map (exposure_row_text (name_of_workload (folding_of lists) shown.workload) shown.direction) (rows_of (pod_side lists shown))

-- the text of the rows of some sides, in a format
unfoldable pub exposure_text : Format → EstateLists → List ShownSide → List ℕ
exposure_text format lists sides = report_text format (flat_map (side_rows lists) sides)

-- ---- all of it

-- nothing, unless there is a fault
abbrev pub nothing_unless : Option Fault → Result ⊤ Fault
nothing_unless (Some fault) = Err fault
nothing_unless None = Ok tt

abbrev pub text_unless : Option Fault → List ℕ → Result (List ℕ) Fault
text_unless (Some fault) text = Err fault
text_unless None text = Ok text

abbrev pub exposure_of_sides : Format → EstateLists → Result (List ShownSide) Fault → Result (List ℕ) Fault
exposure_of_sides format lists (Ok sides) = text_unless (first_fault lists sides) (exposure_text format lists sides)
exposure_of_sides format lists (Err fault) = Err fault

-- The exposure of the workloads that are asked for, or why it is not told.
unfoldable pub exposure_reply : Option (List ℕ) → Format → EstateLists → Result (List ℕ) Fault
exposure_reply workload format lists = exposure_of_sides format lists (sides_shown workload lists)
