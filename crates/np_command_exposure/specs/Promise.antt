-- What a report of `exposure` says of the bytes of its inputs, and why there is none.
use Rattle.std.specs.Prelude.{◌≡◌, ◌≢◌, ◌<◌, ◌≤◌, ◌-◌, ◌^◌, ℕ, List, [], ◌∷◌, ◌++◌, Contains, flat_map, map, min, slice_index, true, None, Some, Option, Ok}
use Rattle.std.specs.List.{list_all}
use Rattle.np_command_exposure.specs.Types.{Direction, Egress, EstateLists, ExposureRow, Fault, Format, Ingress, Stranger, TooManyPatterns, UnknownEnd}
use Rattle.np_command.specs.Prelude.{SinkTrace, TookWhole, lists_of}
use Rattle.np_command_exposure.specs.Report.{exposure_row_text}
use Rattle.np_exposure.specs.Prelude.{FirstRowTells, IsEachFirst, are_well, is_hypothetical, mentions, weight}
use Rattle.np_exposure.specs.declared.exposures.TheConstants.{MOST_PATTERNS}
use Rattle.np_fold.specs.Prelude.{Workload, workloads_of}
use Rattle.np_report.specs.Prelude.{report_text}
use Rattle.np_rules.specs.Prelude.{side_of}

-- ---- what is shown

-- a workload, as it is sent to or as it sends
pub record WorkloadSide : Type 0 where
  pub workload : Workload
  pub direction : Direction

-- both sides of a workload, that of ingress first
abbrev pub sides_of : Workload → List WorkloadSide
sides_of one = record { workload = one; direction = Ingress } ∷ record { workload = one; direction = Egress } ∷ []

-- the sides that are asked for: those of all workloads in their order, or those of the one of a name
abbrev pub AreAsked : EstateLists → Option (List ℕ) → List WorkloadSide → Type 0
AreAsked lists None sides = sides ≡ flat_map sides_of (workloads_of lists)
AreAsked lists (Some name) sides = (one : Workload) × Contains (workloads_of lists) one × (one.name ≡ name) × (sides ≡ sides_of one)

-- how many patterns of labels the requirements may tell apart that are mentioned of the first pod of a workload
abbrev pub weight_of : EstateLists → WorkloadSide → ℕ
weight_of lists side = weight (mentions (side_of lists (slice_index side.workload.members 0) side.direction))

-- Each row is the first that some hypothetical pod meets, and the first that any of them meets has exactly what each pod of the
-- workload allows it.
abbrev pub SaysWhatIsExposed : EstateLists → WorkloadSide → List ExposureRow → Type 0
SaysWhatIsExposed lists side rows = IsEachFirst is_hypothetical rows
    × ((p : ℕ) (s : Stranger) → Contains side.workload.members p → is_hypothetical s ≡ true → FirstRowTells (side_of lists p side.direction) rows s)

-- The bytes of the inputs are those of an estate, and the sink took rows for each side that is asked for, which say what is
-- exposed there, and whose texts tell their requirements.
pub record ExposesAll (out : SinkTrace) (workload : Option (List ℕ)) (format : Format) (texts : List (List ℕ)) : Type 0 where
  pub lists : EstateLists
  pub sides : List WorkloadSide
  pub rows : WorkloadSide → List ExposureRow
  pub read : lists_of texts ≡ Ok lists
  pub asked : AreAsked lists workload sides
  pub few : (side : WorkloadSide) → Contains sides side → weight_of lists side ≤ MOST_PATTERNS
  pub exposed : (side : WorkloadSide) → Contains sides side → SaysWhatIsExposed lists side (rows side)
  pub well : (side : WorkloadSide) → Contains sides side → list_all (λ row. are_well row.requirements) (rows side) ≡ true
  pub printed : TookWhole out (report_text format (flat_map (λ side. map (exposure_row_text side.workload.name side.direction) (rows side)) sides))

-- ---- refusals

-- The first of some sides that has too many patterns, with their number as far as 64 bits say it.
pub record IsFirstOver (lists : EstateLists) (sides : List WorkloadSide) (fault : Fault) : Type 0 where
  pub before : List WorkloadSide
  pub side : WorkloadSide
  pub after : List WorkloadSide
  pub stands : sides ≡ before ++ side ∷ after
  pub few : (other : WorkloadSide) → Contains before other → weight_of lists other ≤ MOST_PATTERNS
  pub over : MOST_PATTERNS < weight_of lists side
  pub told : fault ≡ TooManyPatterns side.workload.name side.direction (min (weight_of lists side) (2 ^ 64 - 1))

-- Why it is refused: no workload has the name, or a side that is asked for has too many patterns.
pub data RefusesExposure (workload : Option (List ℕ)) (lists : EstateLists) (fault : Fault) : Type 0 where
  unknown : (name : List ℕ) → workload ≡ Some name → ((one : Workload) → Contains (workloads_of lists) one → one.name ≢ name) → fault ≡ UnknownEnd name → RefusesExposure workload lists fault
  too_many : (sides : List WorkloadSide) → AreAsked lists workload sides → IsFirstOver lists sides fault → RefusesExposure workload lists fault
