-- Faults, as they are told.
use Rattle.std.specs.Prelude.{ℕ, List, ◌++◌, codes, decimal}
use Rattle.np_model.specs.Prelude.{direction_text}
use Rattle.np_reading.specs.Prelude.{refusal_text}
use Rattle.np_command.specs.Types.{Alike, BadStatement, Fault, Inputs, SameEnd, Split, TooManyPatterns, TooManyWorkloads, UnknownEnd}

abbrev pub fault_text : Fault → List ℕ
fault_text (Inputs refusal) = refusal_text refusal
fault_text (TooManyWorkloads count) = codes "TooManyWorkloads " ++ decimal count
fault_text (BadStatement line) = codes "BadStatement line " ++ decimal line
fault_text (Split source destination) = codes "Split " ++ source ++ codes ", " ++ destination
fault_text (Alike a b) = codes "Alike " ++ a ++ codes ", " ++ b
fault_text (UnknownEnd name) = codes "UnknownEnd " ++ name
fault_text (SameEnd name) = codes "SameEnd " ++ name
fault_text (TooManyPatterns workload direction weight) =
    codes "TooManyPatterns " ++ workload ++ codes " " ++ direction_text direction ++ codes ": " ++ decimal weight
