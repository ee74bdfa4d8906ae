-- The command line of `list`: clap is exact for it, and what its values make. For `ListWordsCommandWords::job`.
use Rattle.std.proofs.Common.{◌≡◌, List, Option, Some, codes, refl}
use Rattle.clap.specs.Simple.{Shape, built}
use Rattle.clap.specs.Walk.{Row, Rule, first_of}
use Rattle.np_addr.specs.Prelude.{◌>>=◌}
use Rattle.np_args.proofs.BehindLemmas.{IsWalked}
use Rattle.np_args.proofs.FileLemmas.{TakesFiles}
use Rattle.np_args.specs.Prelude.{FocusSide, Format, Job, List as ListJob, Report, Word, files_in, focus_side_of, format_of, list_command, list_job_of, report_of, value_in}

-- the command as clap builds it, and its arguments
abbrev pub shape : Shape
shape = (built list_command).top

abbrev pub rules : List Rule
rules = shape.rules

pub takes : TakesFiles shape
takes = record { by_place = refl; by_name = refl }

pub list_walked : IsWalked list_command (codes "list")
list_walked = record { fails = λ words. refl; finds = λ words. refl }

-- the table of these values, where each is there
abbrev pub table_of : Option Format → Option Report → Option FocusSide → Option (List Word) → Option Word → Option Word → Option Job
table_of format report side files controller focus = do
  one ← format
  two ← report
  three ← side
  four ← files
  Some (ListJob one two controller focus three four)

pub list_of-values : (rows : List Row) (format : Option Format) (report : Option Report) (side : Option FocusSide) (files : Option (List Word)) (controller focus : Option Word)
    → value_in format_of (codes "format") rows ≡ format → value_in report_of (codes "report") rows ≡ report → value_in focus_side_of (codes "side") rows ≡ side
    → files_in rows ≡ files → first_of (codes "controller") rows ≡ controller → first_of (codes "focus") rows ≡ focus
    → list_job_of rows ≡ table_of format report side files controller focus
list_of-values rows format report side files controller focus one two three four five six = rw (one, two, three, four, five, six) refl
