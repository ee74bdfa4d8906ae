-- Words as their users write them.
use Rattle.std.specs.Prelude.{◌==◌, ◌∷◌, ◌++◌, ◌||◌, [], Bool, List, None, Option, Some, codes, false, not, true}
use Rattle.std.specs.List.{list_any}
use Rattle.std.specs.Str.{bytes_eq}
use Rattle.np_args.specs.Arguments.{is_empty}
use Rattle.np_args.specs.Values.{Word}
use Rattle.np_args.specs.Types.{Csv, Destination, Either, FocusSide, Format, Job, Json, List as ListJob, One, Plain, Report, Source, Two}

-- whether a word is no option: it does not begin with a hyphen (45), or is the hyphen alone
abbrev pub is_plain : Word → Bool
is_plain [] = true
is_plain (first ∷ rest) = not (first == 45) || is_empty rest

-- these files, or standard input where there are none
abbrev pub or_standard_input : List Word → List Word
or_standard_input [] = codes "-" ∷ []
or_standard_input (name ∷ names) = name ∷ names

-- the names of the options of `list`
abbrev pub is_list_option : Word → Bool
is_list_option name = list_any (λ option. bytes_eq option name) (codes "format" ∷ codes "report" ∷ codes "controller" ∷ codes "focus" ∷ codes "side" ∷ [])

-- the table as text, of rows at either side
abbrev pub text_table : Report → Option Word → Option Word → List Word → Job
text_table report controller focus files = ListJob Plain report controller focus Either files

-- ---- values, each of which has one word

abbrev pub format_word : Format → Word
format_word Plain = codes "text"
format_word Csv = codes "csv"
format_word Json = codes "json"

abbrev pub report_word : Report → Word
report_word One = codes "1"
report_word Two = codes "2"

abbrev pub side_word : FocusSide → Word
side_word Either = codes "either"
side_word Source = codes "from"
side_word Destination = codes "to"

-- ---- options of `list`

-- what `list` is asked for beside its files
pub record Table : Type 0 where
  pub format : Format
  pub report : Report
  pub controller : Option Word
  pub focus : Option Word
  pub side : FocusSide

-- what it is asked for where no option is given
abbrev pub default_table : Table
default_table = record { format = Plain; report = Two; controller = None; focus = None; side = Either }

-- the job that writes the table of these files
abbrev pub table_job : Table → List Word → Job
table_job table files = ListJob table.format table.report table.controller table.focus table.side files

-- an option with its value
pub data Setting : Type 0 where
  format_is : Format → Setting
  report_is : Report → Setting
  controller_is : Word → Setting
  focus_is : Word → Setting
  side_is : FocusSide → Setting

-- the word that gives it, with the value behind `=`
abbrev pub setting_word : Setting → Word
setting_word (format_is value) = codes "--format=" ++ format_word value
setting_word (report_is value) = codes "--report=" ++ report_word value
setting_word (controller_is name) = codes "--controller=" ++ name
setting_word (focus_is name) = codes "--focus=" ++ name
setting_word (side_is value) = codes "--side=" ++ side_word value

-- a table with it
abbrev pub with_setting : Table → Setting → Table
with_setting table (format_is value) = record table { format = value }
with_setting table (report_is value) = record table { report = value }
with_setting table (controller_is name) = record table { controller = Some name }
with_setting table (focus_is name) = record table { focus = Some name }
with_setting table (side_is value) = record table { side = value }

abbrev pub is_same_option : Setting → Setting → Bool
is_same_option (format_is one) (format_is other) = true
is_same_option (report_is one) (report_is other) = true
is_same_option (controller_is one) (controller_is other) = true
is_same_option (focus_is one) (focus_is other) = true
is_same_option (side_is one) (side_is other) = true
is_same_option one other = false
