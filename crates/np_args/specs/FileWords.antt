-- The command lines of `unused` and of `flatten`, which take files alone.
use Rattle.std.specs.Prelude.{◌∷◌, [], List, Option, option_map}
use Rattle.clap.specs.Simple.{App}
use Rattle.clap.specs.Walk.{Row}
use Rattle.np_args.specs.Arguments.{command_of, file_rule, files_in}
use Rattle.np_args.specs.Values.{Word}
use Rattle.np_args.specs.Types.{Job}

-- `NAME [FILE]...`
abbrev pub files_command : Word → App
files_command name = command_of name (file_rule ∷ [])

-- the job that is made of the files
abbrev pub files_of : (List Word → Job) → List Row → Option Job
files_of job rows = option_map job (files_in rows)
