-- The command line of `list`.
use Rattle.std.specs.Prelude.{◌∷◌, [], List, Option, Some, codes}
use Rattle.clap.specs.Simple.{App}
use Rattle.clap.specs.Walk.{Row, first_of}
use Rattle.np_addr.specs.Prelude.{◌>>=◌}
use Rattle.np_args.specs.Arguments.{command_of, default_rule, file_rule, files_in, option_rule, value_in}
use Rattle.np_args.specs.Values.{focus_side_of, format_of, report_of}
use Rattle.np_args.specs.Types.{Job, List as ListJob}

-- `list [--format text|csv|json] [--report 1|2] [--controller NAME] [--focus NAME] [--side either|from|to] [FILE]...`
abbrev pub list_command : App
list_command = command_of (codes "list")
    (default_rule (codes "format") (codes "text") ∷ default_rule (codes "report") (codes "2") ∷ option_rule (codes "controller")
    ∷ option_rule (codes "focus") ∷ default_rule (codes "side") (codes "either") ∷ file_rule ∷ [])

-- the table that was asked for
abbrev pub list_job_of : List Row → Option Job
list_job_of rows = do
  format ← value_in format_of (codes "format") rows
  report ← value_in report_of (codes "report") rows
  side ← value_in focus_side_of (codes "side") rows
  files ← files_in rows
  Some (ListJob format report (first_of (codes "controller") rows) (first_of (codes "focus") rows) side files)
