-- The command line of `explain`.
use Rattle.std.specs.Prelude.{◌∷◌, [], List, Option, Some, codes}
use Rattle.clap.specs.Simple.{App}
use Rattle.clap.specs.Walk.{Row}
use Rattle.np_addr.specs.Prelude.{◌>>=◌}
use Rattle.np_args.specs.Arguments.{command_of, file_rule, files_in, required_rule, value_in}
use Rattle.np_args.specs.Values.{packet_end_of}
use Rattle.np_args.specs.Types.{Explain as ExplainJob, Job}

-- `explain --from END --to END [FILE]...`
abbrev pub explain_command : App
explain_command = command_of (codes "explain") (required_rule (codes "from") ∷ required_rule (codes "to") ∷ file_rule ∷ [])

-- the ends that were asked about
abbrev pub explain_of : List Row → Option Job
explain_of rows = do
  files ← files_in rows
  from ← value_in packet_end_of (codes "from") rows
  to ← value_in packet_end_of (codes "to") rows
  Some (ExplainJob from to files)
