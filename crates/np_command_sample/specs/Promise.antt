-- What a report of `sample` says.
use Rattle.std.specs.Prelude.{◌≡◌, ℕ, [], ◌∷◌, Ok}
use Rattle.np_command.specs.Prelude.{SinkTrace, TookWhole, lists_of}
use Rattle.np_command_sample.specs.Report.{sample_summary}
use Rattle.np_command_sample.specs.Estate.{sample_estate}
use Rattle.np_sample.specs.Prelude.{sample_text}

-- What is read of the text of the sample of so many pods is its estate, and the sink took how many workloads that has, and how
-- many rows its table.
pub record CountsAll (out : SinkTrace) (n : ℕ) : Type 0 where
  pub read : lists_of (sample_text n ∷ []) ≡ Ok (sample_estate n)
  pub printed : TookWhole out (sample_summary (sample_estate n))
