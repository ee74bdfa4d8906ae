-- A run of the top call, and what holds of runs that end before their inputs are read.
use Rattle.std.specs.Prelude.{◌≡◌, ℕ, List, Option, None, is_some, true}
use Rattle.np_frame.specs.Prelude.{AreTold, FailedAt, OverLimit, SourceTrace, names_asked}
use Rattle.np_command.specs.Prelude.{IsKept, SinkTrace}
use Rattle.np_cli.specs.Types.{Job}

-- a run: what the words ask for, and what it did to the source and to the sink of the report
pub record Run : Type 0 where
  pub asked : Option Job
  pub source : SourceTrace
  pub out : SinkTrace

abbrev pub ran : Option Job → SourceTrace → SinkTrace → Run
ran asked source out = record { asked = asked; source = source; out = out }

-- the inputs that the words ask for tell these bytes
abbrev pub KnowsBytes : Run → List (List ℕ) → Type 0
KnowsBytes run texts = AreTold run.source.holds run.source.left (names_asked run.asked) texts

-- The words ask for nothing, and nothing was touched.
pub record AskedNothing (run : Run) : Type 0 where
  pub asked : run.asked ≡ None
  pub faults : run.source.faults_after ≡ run.source.faults_before
  pub handed : run.source.handed_after ≡ run.source.handed_before
  pub began : run.source.began_after ≡ run.source.began_before
  pub kept : IsKept run.out

-- The inputs were not read to their ends, since they are too large.
pub record ReadTooMuch (run : Run) : Type 0 where
  pub asked : is_some run.asked ≡ true
  pub over : OverLimit run.source (names_asked run.asked)
  pub kept : IsKept run.out

-- A call for the input of this name failed.
pub record StoppedReading (run : Run) (name : List ℕ) : Type 0 where
  pub at : FailedAt run.source (names_asked run.asked) name
  pub kept : IsKept run.out
