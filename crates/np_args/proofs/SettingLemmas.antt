-- Two options of `list` with their values. For `two_options_are_both_read`.
use Rattle.std.proofs.Common.{◌≡◌, ◌∙◌, ◌++◌, ap, List, [], ◌∷◌, Bool, true, false, Option, Some, None, codes, if◌then◌else◌, option_and_then, refl, true≢false}
use Rattle.std.specs.List.{list_all}
use Rattle.clap.proofs.OnLiterals.{clap_on_literals}
use Rattle.clap.specs.Faults.{defaults_fault}
use Rattle.clap.specs.Simple.{built}
use Rattle.clap.specs.Walk.{Held, Row, Rule, finished, first_of, has_row, nothing_held}
use Rattle.np_args.proofs.BehindLemmas.{Holds, Makes, faults_from, once_or_alone, optioned, row_of_value}
use Rattle.np_args.proofs.FileLemmas.{IsMet, after, start}
use Rattle.np_args.proofs.ListLemmas.{list_of-values, list_walked, rules, shape, takes}
use Rattle.np_args.proofs.WordLemmas.{format_word-read, report_word-read, side_word-read}
use Rattle.np_args.specs.Prelude.{Job, Setting, Table, Word, are_files, checked_files, controller_is, default_rule, default_table, files_in, focus_is, focus_side_of, format_is, format_of, format_word, is_plain, is_same_option, job_of, list_command, list_job_of, option_rule, or_standard_input, report_is, report_of, report_word, setting_word, side_is, side_word, table_job, value_in, with_setting}

-- ---- what clap notes of a setting

abbrev rule_of : Setting → Rule
rule_of (format_is value) = default_rule (codes "format") (codes "text")
rule_of (report_is value) = default_rule (codes "report") (codes "2")
rule_of (controller_is name) = option_rule (codes "controller")
rule_of (focus_is name) = option_rule (codes "focus")
rule_of (side_is value) = default_rule (codes "side") (codes "either")

abbrev value_of : Setting → Word
value_of (format_is value) = format_word value
value_of (report_is value) = report_word value
value_of (controller_is name) = name
value_of (focus_is name) = name
value_of (side_is value) = side_word value

abbrev rows_of : Setting → Setting → List Row
rows_of a b = row_of_value (rule_of a) (value_of a) ∷ row_of_value (rule_of b) (value_of b) ∷ []

abbrev both : Setting → Setting → Held
both a b = record nothing_held { rows = rows_of a b }

holds : (a b : Setting) → is_same_option a b ≡ false → Holds shape (setting_word a ∷ setting_word b ∷ []) (both a b)
unfolding clap_on_literals
holds (format_is one) (format_is other) differ = absurd (true≢false differ)
holds (report_is one) (report_is other) differ = absurd (true≢false differ)
holds (controller_is one) (controller_is other) differ = absurd (true≢false differ)
holds (focus_is one) (focus_is other) differ = absurd (true≢false differ)
holds (side_is one) (side_is other) differ = absurd (true≢false differ)
holds a b differ = record { walks = λ rest. refl; passes = λ rest. refl }

-- ---- what comes of it

-- the table of both settings, of files that name standard input at most once
abbrev table_with : Setting → Setting → Table
table_with a b = with_setting (with_setting default_table a) b

abbrev gives : Setting → Setting → List Word → Option Job
gives a b files = option_and_then (λ names. Some (table_job (table_with a b) names)) (checked_files files)

-- the rows hold the values of the table, and these files
record Hold (a b : Setting) (rows : List Row) (named : List Word) : Type 0 where
  pub format : value_in format_of (codes "format") rows ≡ Some (table_with a b).format
  pub report : value_in report_of (codes "report") rows ≡ Some (table_with a b).report
  pub side : value_in focus_side_of (codes "side") rows ≡ Some (table_with a b).side
  pub files : files_in rows ≡ checked_files named
  pub controller : first_of (codes "controller") rows ≡ (table_with a b).controller
  pub focus : first_of (codes "focus") rows ≡ (table_with a b).focus

made-of : (a b : Setting) (rows : List Row) (files : List Word) → Hold a b rows files → list_job_of rows ≡ gives a b files
made-of a b rows files hold =
    let table = table_with a b in
    list_of-values rows (Some table.format) (Some table.report) (Some table.side) (checked_files files) table.controller table.focus
    hold.format hold.report hold.side hold.files hold.controller hold.focus

-- ---- settings and files

-- what is found of both settings with files behind them
abbrev found : Setting → Setting → List Word → Word → List Row
found a b done last = finished rules (after (rows_of a b) false done last).held

format-held : (a b : Setting) (done : List Word) (last : Word) → is_same_option a b ≡ false → value_in format_of (codes "format") (found a b done last) ≡ Some (table_with a b).format
format-held (format_is one) (format_is other) done last differ = absurd (true≢false differ)
format-held (format_is one) b [] last differ = format_word-read one
format-held (format_is one) b (word ∷ more) last differ = format_word-read one
format-held a (format_is other) [] last differ = format_word-read other
format-held a (format_is other) (word ∷ more) last differ = format_word-read other
format-held a b [] last differ = refl
format-held a b (word ∷ more) last differ = refl

report-held : (a b : Setting) (done : List Word) (last : Word) → is_same_option a b ≡ false → value_in report_of (codes "report") (found a b done last) ≡ Some (table_with a b).report
report-held (report_is one) (report_is other) done last differ = absurd (true≢false differ)
report-held (report_is one) b [] last differ = report_word-read one
report-held (report_is one) b (word ∷ more) last differ = report_word-read one
report-held a (report_is other) [] last differ = report_word-read other
report-held a (report_is other) (word ∷ more) last differ = report_word-read other
report-held a b [] last differ = refl
report-held a b (word ∷ more) last differ = refl

side-held : (a b : Setting) (done : List Word) (last : Word) → is_same_option a b ≡ false → value_in focus_side_of (codes "side") (found a b done last) ≡ Some (table_with a b).side
side-held (side_is one) (side_is other) done last differ = absurd (true≢false differ)
side-held (side_is one) b [] last differ = side_word-read one
side-held (side_is one) b (word ∷ more) last differ = side_word-read one
side-held a (side_is other) [] last differ = side_word-read other
side-held a (side_is other) (word ∷ more) last differ = side_word-read other
side-held a b [] last differ = refl
side-held a b (word ∷ more) last differ = refl

files-held : (a b : Setting) (done : List Word) (last : Word) → is_same_option a b ≡ false → files_in (found a b done last) ≡ checked_files (done ++ last ∷ [])
files-held (format_is one) (format_is other) done last differ = absurd (true≢false differ)
files-held (report_is one) (report_is other) done last differ = absurd (true≢false differ)
files-held (controller_is one) (controller_is other) done last differ = absurd (true≢false differ)
files-held (focus_is one) (focus_is other) done last differ = absurd (true≢false differ)
files-held (side_is one) (side_is other) done last differ = absurd (true≢false differ)
files-held a b [] last differ = refl
files-held a b (word ∷ more) last differ = refl

controller-held : (a b : Setting) (done : List Word) (last : Word) → is_same_option a b ≡ false → first_of (codes "controller") (found a b done last) ≡ (table_with a b).controller
controller-held (format_is one) (format_is other) done last differ = absurd (true≢false differ)
controller-held (report_is one) (report_is other) done last differ = absurd (true≢false differ)
controller-held (controller_is one) (controller_is other) done last differ = absurd (true≢false differ)
controller-held (focus_is one) (focus_is other) done last differ = absurd (true≢false differ)
controller-held (side_is one) (side_is other) done last differ = absurd (true≢false differ)
controller-held a b [] last differ = refl
controller-held a b (word ∷ more) last differ = refl

focus-held : (a b : Setting) (done : List Word) (last : Word) → is_same_option a b ≡ false → first_of (codes "focus") (found a b done last) ≡ (table_with a b).focus
focus-held (format_is one) (format_is other) done last differ = absurd (true≢false differ)
focus-held (report_is one) (report_is other) done last differ = absurd (true≢false differ)
focus-held (controller_is one) (controller_is other) done last differ = absurd (true≢false differ)
focus-held (focus_is one) (focus_is other) done last differ = absurd (true≢false differ)
focus-held (side_is one) (side_is other) done last differ = absurd (true≢false differ)
focus-held a b [] last differ = refl
focus-held a b (word ∷ more) last differ = refl

clean : (a b : Setting) (done : List Word) (last : Word) → is_same_option a b ≡ false → faults_from (built list_command) [] (after (rows_of a b) false done last) ≡ []
unfolding defaults_fault
clean (format_is one) (format_is other) done last differ = absurd (true≢false differ)
clean (report_is one) (report_is other) done last differ = absurd (true≢false differ)
clean (controller_is one) (controller_is other) done last differ = absurd (true≢false differ)
clean (focus_is one) (focus_is other) done last differ = absurd (true≢false differ)
clean (side_is one) (side_is other) done last differ = absurd (true≢false differ)
clean a b [] last differ = refl
clean a b (word ∷ more) last differ = refl

made : (a b : Setting) (done : List Word) (last : Word) → is_same_option a b ≡ false → list_job_of (found a b done last) ≡ gives a b (done ++ last ∷ [])
made a b done last differ = made-of a b (found a b done last) (done ++ last ∷ []) (record {
  format = format-held a b done last differ;
  report = report-held a b done last differ;
  side = side-held a b done last differ;
  files = files-held a b done last differ;
  controller = controller-held a b done last differ;
  focus = focus-held a b done last differ;
})

-- ---- settings alone

-- what is found of both settings
abbrev alone : Setting → Setting → List Row
alone a b = finished rules (both a b)

format-alone : (a b : Setting) → is_same_option a b ≡ false → value_in format_of (codes "format") (alone a b) ≡ Some (table_with a b).format
format-alone (format_is one) (format_is other) differ = absurd (true≢false differ)
format-alone (format_is one) b differ = format_word-read one
format-alone a (format_is other) differ = format_word-read other
format-alone a b differ = refl

report-alone : (a b : Setting) → is_same_option a b ≡ false → value_in report_of (codes "report") (alone a b) ≡ Some (table_with a b).report
report-alone (report_is one) (report_is other) differ = absurd (true≢false differ)
report-alone (report_is one) b differ = report_word-read one
report-alone a (report_is other) differ = report_word-read other
report-alone a b differ = refl

side-alone : (a b : Setting) → is_same_option a b ≡ false → value_in focus_side_of (codes "side") (alone a b) ≡ Some (table_with a b).side
side-alone (side_is one) (side_is other) differ = absurd (true≢false differ)
side-alone (side_is one) b differ = side_word-read one
side-alone a (side_is other) differ = side_word-read other
side-alone a b differ = refl

-- the rest of what is found of both, and that it has no fault
record Rest (a b : Setting) : Type 0 where
  pub files : files_in (alone a b) ≡ checked_files (codes "-" ∷ [])
  pub controller : first_of (codes "controller") (alone a b) ≡ (table_with a b).controller
  pub focus : first_of (codes "focus") (alone a b) ≡ (table_with a b).focus
  pub clean : faults_from (built list_command) [] (start false (both a b)) ≡ []
  pub new : has_row (codes "FILE") (rows_of a b) ≡ false
  pub met : IsMet shape (both a b) (rows_of a b)

rest : (a b : Setting) → is_same_option a b ≡ false → Rest a b
unfolding defaults_fault
rest (format_is one) (format_is other) differ = absurd (true≢false differ)
rest (report_is one) (report_is other) differ = absurd (true≢false differ)
rest (controller_is one) (controller_is other) differ = absurd (true≢false differ)
rest (focus_is one) (focus_is other) differ = absurd (true≢false differ)
rest (side_is one) (side_is other) differ = absurd (true≢false differ)
rest a b differ = record {
  files = refl;
  controller = refl;
  focus = refl;
  clean = refl;
  new = refl;
  met = record { settles = refl; passes = refl; other = refl };
}

made_alone : (a b : Setting) → is_same_option a b ≡ false → Rest a b → list_job_of (alone a b) ≡ gives a b (codes "-" ∷ [])
made_alone a b differ rest = made-of a b (alone a b) (codes "-" ∷ []) (record {
  format = format-alone a b differ;
  report = report-alone a b differ;
  side = side-alone a b differ;
  files = rest.files;
  controller = rest.controller;
  focus = rest.focus;
})

-- ---- what the words ask for

makes : (a b : Setting) → is_same_option a b ≡ false → Makes list_command list_job_of (both a b) (rows_of a b) (gives a b)
makes a b differ =
    let more = rest a b differ in record {
      new = more.new;
      met = more.met;
      clean = λ done last. clean a b done last differ;
      made = λ done last. made a b done last differ;
      clean_alone = more.clean;
      made_alone = made_alone a b differ more;
    }

taken : (a b : Setting) (files : List Word) → are_files files ≡ true → gives a b files ≡ Some (table_job (table_with a b) files)
taken a b files once =
    ap (λ (few : Bool). option_and_then (λ (names : List Word). Some (table_job (table_with a b) names)) (if few then Some files else None)) once

pub settings_job : (a b : Setting) (names : List Word) → is_same_option a b ≡ false → list_all is_plain names ≡ true → are_files names ≡ true
    → job_of (codes "list" ∷ setting_word a ∷ setting_word b ∷ names) ≡ Some (table_job (table_with a b) (or_standard_input names))
settings_job a b names differ plain once =
    optioned list_command list_job_of (codes "list") list_walked takes (setting_word a ∷ setting_word b ∷ []) (both a b) (rows_of a b) (gives a b)
    (holds a b differ) (makes a b differ) names plain
    ∙ taken a b (or_standard_input names) (once_or_alone names once)
