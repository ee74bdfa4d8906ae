-- The command line of `check`.
use Rattle.std.specs.Prelude.{◌∷◌, [], List, None, Option, Some, codes, if◌then◌else◌}
use Rattle.clap.specs.Simple.{App}
use Rattle.clap.specs.Walk.{Row, first_of}
use Rattle.np_addr.specs.Prelude.{◌>>=◌}
use Rattle.np_args.specs.Arguments.{are_files, command_of, file_rule, files_in, required_rule}
use Rattle.np_args.specs.Types.{Check as CheckJob, Job}

-- `check --statement FILE [FILE]...`
abbrev pub check_command : App
check_command = command_of (codes "check") (required_rule (codes "statement") ∷ file_rule ∷ [])

-- The statement file, and the files that it is asked of. Standard input is named at most once among them all.
abbrev pub check_of : List Row → Option Job
check_of rows = do
  files ← files_in rows
  statement ← first_of (codes "statement") rows
  if are_files (statement ∷ files) then Some (CheckJob statement files) else None
