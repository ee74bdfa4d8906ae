-- How many rules a job looks at.
use Rattle.std.specs.Prelude.{◌≡◌, ℕ, ◌+◌, ◌≤◌, List, Option, Some, None, Result, Ok, Err}
use Rattle.np_frame.specs.Prelude.{objects_of}
use Rattle.np_cli.specs.Runs.{Run, KnowsBytes}
use Rattle.np_cli.specs.Types.{Check, EstateLists, Evaluate, Explain, Exposure, Fault, Flatten, Job, List as ListJob, Sample, Unused}
use Rattle.np_command.specs.Prelude.{list_steps}

-- for a job on what its inputs say: for the two that make all rows of a table; no number is stated for the others
unfoldable pub reply_steps : Job → EstateLists → Option ℕ
reply_steps (ListJob format report controller focus side files) lists = Some (list_steps lists)
reply_steps (Explain from to files) lists = None
reply_steps (Exposure workload format files) lists = None
reply_steps (Evaluate from to proto port files) lists = None
reply_steps (Unused files) lists = None
reply_steps (Check statement files) lists = None
reply_steps (Flatten files) lists = None
reply_steps (Sample n) lists = Some (list_steps lists)

-- for a job on what its inputs are read as; none where they have a fault
abbrev pub steps_in : Job → Result EstateLists Fault → Option ℕ
steps_in job (Ok lists) = reply_steps job lists
steps_in job (Err fault) = Some 0

-- for a job on inputs of these bytes
unfoldable pub most_steps : Job → List (List ℕ) → Option ℕ
most_steps job texts = steps_in job (objects_of job texts)

-- the count rose by that many at most, where a number is stated
abbrev pub RoseAtMost : Option ℕ → ℕ → ℕ → Type 0
RoseAtMost (Some most) before after = after ≤ before + most
RoseAtMost None before after = Unit {0}

-- The count never falls, and where the source tells the bytes of a job's inputs, it rises by so many at most.
pub record Counted (run : Run) (before after : ℕ) : Type 0 where
  pub least : before ≤ after
  pub most : (job : Job) (texts : List (List ℕ)) → run.asked ≡ Some job → KnowsBytes run texts → RoseAtMost (most_steps job texts) before after
