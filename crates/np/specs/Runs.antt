-- What the code of the program says.
use Rattle.std.specs.Prelude.{◌≡◌, ℕ, String, Result, Ok, Err}
use Rattle.std.specs.Global.{Global, Vec}
use Rattle.np_args.specs.Prelude.{asked_by}
use Rattle.np_cli.specs.Prelude.{Bytes, Counted, Promises, Run, ran}
use Rattle.np_command.specs.Prelude.{IsKept, Said, SinkTrace, code_of, failure_status}
use Rattle.np_command.specs.declared.failure.Failure.{Failure}
use Rattle.np_command.specs.declared.status.Status.{Status}
use Rattle.np_frame.specs.Prelude.{IsUntouched, SourceTrace, failure_text}

-- The code is that of a status of which all is promised that `np_main` promises of its own, where the rules are counted from 0.
pub record EndsAsPromised (run : Run) (err : SinkTrace) (code : ℕ) : Type 0 where
  pub status : Status
  pub answered : code ≡ code_of status
  pub promises : Promises run err status
  pub bytes : Bytes run err status
  pub counted : ℕ
  pub costs : Counted run 0 counted

-- There are no words: the code is that of the failure, which was said, and nothing else was touched.
pub record EndsWithoutWords (failure : Failure) (source : SourceTrace) (out err : SinkTrace) (code : ℕ) : Type 0 where
  pub answered : code ≡ code_of (failure_status failure)
  pub untouched : IsUntouched source
  pub kept : IsKept out
  pub said : Said err (failure_text failure)

-- what the code says of these words, or of why there are none
abbrev pub EndsSo : Result (Vec (String Global)) Failure → SourceTrace → SinkTrace → SinkTrace → ℕ → Type 0
EndsSo (Ok words) source out err code = EndsAsPromised (ran (asked_by words.items) source out) err code
EndsSo (Err failure) source out err code = EndsWithoutWords failure source out err code
