-- The arguments of a command, and what clap finds of them.
use Rattle.std.specs.Prelude.{◌∷◌, [], Bool, List, None, Option, Some, codes, count_by, if◌then◌else◌, nat_lt, option_and_then, true, false, unwrap_or}
use Rattle.std.specs.Str.{bytes_eq}
use Rattle.clap.specs.Faults.{fault_of}
use Rattle.clap.specs.Simple.{App, matches_of, new_rule, new_shape}
use Rattle.clap.specs.Walk.{Row, Rule, all_of, first_of}
use Rattle.clap.specs.declared.builder.action.ArgAction.TheVariants.{Append, Set}
use Rattle.np_args.specs.Values.{Word}

-- ---- arguments

-- an option with one value, which is named by a long name alone
abbrev pub option_rule : Word → Rule
option_rule name = record (new_rule name) { long = Some name; action = Some Set }

-- one that has this value where it is not given
abbrev pub default_rule : Word → Word → Rule
default_rule name missing = record (option_rule name) { defaults = missing ∷ [] }

-- one that must be given
abbrev pub required_rule : Word → Rule
required_rule name = record (option_rule name) { required = true }

-- FILE: the name of an input, as often as it is given, and where it is not, that of standard input
abbrev pub file_rule : Rule
file_rule = record (new_rule (codes "FILE")) { action = Some Append; defaults = codes "-" ∷ [] }

-- a command with these arguments, in their order, without subcommands and without flags for help and version
abbrev pub command_of : Word → List Rule → App
command_of name rules = record {
  top = record (new_shape name) { disable_help_flag = true; rules = rules };
  subs = [];
}

-- ---- what is found

-- the value of an option, as its reader takes it
abbrev pub value_in : {T : Type 0} → (Word → Option T) → Word → List Row → Option T
value_in read name rows = option_and_then read (first_of name rows)

-- whether standard input, which can be read once, is named at most once
abbrev pub are_files : List Word → Bool
are_files names = nat_lt (count_by (λ name. bytes_eq name (codes "-")) names) 2

-- these files, where they name standard input at most once
abbrev pub checked_files : List Word → Option (List Word)
checked_files names = if are_files names then Some names else None

-- the files
abbrev pub files_in : List Row → Option (List Word)
files_in rows = checked_files (unwrap_or (all_of (codes "FILE") rows) [])

-- ---- what words ask for

abbrev pub is_empty : {X : Type 0} → List X → Bool
is_empty [] = true
is_empty (x ∷ xs) = false

-- Words that clap refuses for this command ask for nothing, and others for what is made of what it finds.
abbrev pub asked_of : {T : Type 0} → App → (List Row → Option T) → List Word → Option T
asked_of command make words = if is_empty (fault_of command words) then make (matches_of command words) else None
