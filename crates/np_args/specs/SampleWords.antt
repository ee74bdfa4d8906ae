-- The command line of `sample`.
use Rattle.std.specs.Prelude.{◌∷◌, [], List, Option, Some, codes, option_map, true}
use Rattle.clap.specs.Simple.{App, new_rule}
use Rattle.clap.specs.Walk.{Row}
use Rattle.clap.specs.declared.builder.action.ArgAction.TheVariants.{Set}
use Rattle.np_args.specs.Arguments.{command_of, value_in}
use Rattle.np_args.specs.Values.{number_to}
use Rattle.np_args.specs.Types.{Job, Sample as SampleJob}

-- `sample N`: one word, which must be given
abbrev pub sample_command : App
sample_command = command_of (codes "sample") (record (new_rule (codes "N")) { action = Some Set; required = true } ∷ [])

-- the number of pods
abbrev pub sample_of : List Row → Option Job
sample_of rows = option_map SampleJob (value_in (number_to 1000) (codes "N") rows)
