-- The command line of `exposure`.
use Rattle.std.specs.Prelude.{◌∷◌, [], List, Option, Some, codes}
use Rattle.clap.specs.Simple.{App}
use Rattle.clap.specs.Walk.{Row, first_of}
use Rattle.np_addr.specs.Prelude.{◌>>=◌}
use Rattle.np_args.specs.Arguments.{command_of, default_rule, file_rule, files_in, option_rule, value_in}
use Rattle.np_args.specs.Values.{format_of}
use Rattle.np_args.specs.Types.{Exposure as ExposureJob, Job}

-- `exposure [--workload NAME] [--format text|csv|json] [FILE]...`
abbrev pub exposure_command : App
exposure_command =
    command_of (codes "exposure") (option_rule (codes "workload") ∷ default_rule (codes "format") (codes "text") ∷ file_rule ∷ [])

-- the workloads whose exposure was asked for
abbrev pub exposure_of : List Row → Option Job
exposure_of rows = do
  Some (ExposureJob (first_of (codes "workload") rows) (← value_in format_of (codes "format") rows) (← files_in rows))
