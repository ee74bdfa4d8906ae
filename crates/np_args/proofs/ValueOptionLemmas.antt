-- `--format` and `--side` of `list`. For `format_is_read_after_its_option` and `side_is_read_after_its_option`.
use Rattle.std.proofs.Common.{◌≡◌, ◌∙◌, ◌++◌, ap, List, [], ◌∷◌, Bool, true, false, Option, Some, None, codes, fold, if◌then◌else◌, option_and_then, refl}
use Rattle.std.specs.List.{list_all}
use Rattle.clap.proofs.OnLiterals.{clap_on_literals}
use Rattle.clap.specs.Faults.{defaults_fault}
use Rattle.clap.specs.Simple.{built}
use Rattle.clap.specs.Walk.{Held, Row, Walk, finished, walked}
use Rattle.np_args.proofs.BehindLemmas.{Holds, Makes, apart, faults_from, joined, once_or_alone, optioned, row_of_value}
use Rattle.np_args.proofs.FileLemmas.{after, plain_words}
use Rattle.np_args.proofs.ListLemmas.{list_walked, rules, shape, takes}
use Rattle.np_args.proofs.WordLemmas.{format-one_word, side-one_word}
use Rattle.np_args.specs.Prelude.{Csv, Destination, Either, FocusSide, Format, Job, Json, Plain, Source, Table, Word, are_files, checked_files, default_rule, default_table, focus_side_of, format_of, format_word, is_plain, job_of, list_command, list_job_of, or_standard_input, side_word, table_job}

-- what is held gives this job with any files, and without them
listed : (first : List Word) (held : Held) (options : List Row) (gives : List Word → Option Job)
    → Holds shape first held → Makes list_command list_job_of held options gives → (names : List Word) → list_all is_plain names ≡ true
    → job_of (codes "list" ∷ first ++ names) ≡ gives (or_standard_input names)
listed first held options gives holds makes names plain =
    optioned list_command list_job_of (codes "list") list_walked takes first held options gives holds makes names plain

-- the table of files that name standard input at most once
abbrev made_of : Table → List Word → Option Job
made_of table files = option_and_then (λ names. Some (table_job table names)) (checked_files files)

taken : (table : Table) (files : List Word) → are_files files ≡ true → made_of table files ≡ Some (table_job table files)
taken table files once = ap (λ (few : Bool). option_and_then (λ (names : List Word). Some (table_job table names)) (if few then Some files else None)) once

-- ---- `--format`

abbrev format_row : Word → Row
format_row value = row_of_value (default_rule (codes "format") (codes "text")) value

abbrev format_table : Format → Table
format_table format = record default_table { format = format }

abbrev format_made : Word → List Word → Option Job
format_made value files = option_and_then (λ format. made_of (format_table format) files) (format_of value)

clean-format : (value : Word) (done : List Word) (last : Word) → faults_from (built list_command) [] (after (format_row value ∷ []) false done last) ≡ []
unfolding defaults_fault
clean-format value [] last = refl
clean-format value (one ∷ more) last = refl

made-format : (value : Word) (done : List Word) (last : Word)
    → list_job_of (finished rules (after (format_row value ∷ []) false done last).held) ≡ format_made value (done ++ last ∷ [])
made-format value [] last = refl
made-format value (one ∷ more) last = refl

format_apart : (value : Word) → is_plain value ≡ true → Holds shape (codes "--format" ∷ value ∷ []) (apart (codes "format") value)
unfolding clap_on_literals
format_apart value plain =
    let no = plain_words value plain in
    record {
      walks = λ rest. ap (λ (at : Walk). fold (walked rules []) at rest) (rw (no.hyphens, no.long, no.short) refl);
      passes = λ rest. rw (no.hyphens, no.long, no.short) refl;
    }

makes_format_apart : (value : Word) → Makes list_command list_job_of (apart (codes "format") value) (format_row value ∷ []) (format_made value)
unfolding defaults_fault
makes_format_apart value = record {
  new = refl;
  met = record { settles = refl; passes = refl; other = refl };
  clean = clean-format value;
  made = made-format value;
  clean_alone = refl;
  made_alone = refl;
}

format_joined : (value : Word) → Holds shape ((codes "--format=" ++ value) ∷ []) (joined (format_row value))
unfolding clap_on_literals
format_joined value = record { walks = λ rest. refl; passes = λ rest. refl }

makes_format_joined : (value : Word) → Makes list_command list_job_of (joined (format_row value)) (format_row value ∷ []) (format_made value)
unfolding defaults_fault
makes_format_joined value = record {
  new = refl;
  met = record { settles = refl; passes = refl; other = refl };
  clean = clean-format value;
  made = made-format value;
  clean_alone = refl;
  made_alone = refl;
}

-- the word of a format begins with no hyphen
format_of-plain : (value : Word) (format : Format) → format_of value ≡ Some format → is_plain value ≡ true
format_of-plain value format reads = ap is_plain ((format-one_word value format).0 reads) ∙ by format
  where
    by : (one : Format) → is_plain (format_word one) ≡ true
    by Plain = refl
    by Csv = refl
    by Json = refl

pub format_apart_job : (value : Word) (format : Format) (names : List Word) → format_of value ≡ Some format → list_all is_plain names ≡ true → are_files names ≡ true
    → job_of (codes "list" ∷ codes "--format" ∷ value ∷ names) ≡ Some (table_job (format_table format) (or_standard_input names))
format_apart_job value format names reads plain once =
    listed (codes "--format" ∷ value ∷ []) (apart (codes "format") value) (format_row value ∷ []) (format_made value)
    (format_apart value (format_of-plain value format reads)) (makes_format_apart value) names plain
    ∙ ap (option_and_then (λ (one : Format). made_of (format_table one) (or_standard_input names))) reads
    ∙ taken (format_table format) (or_standard_input names) (once_or_alone names once)

pub format_joined_job : (value : Word) (format : Format) (names : List Word) → format_of value ≡ Some format → list_all is_plain names ≡ true → are_files names ≡ true
    → job_of (codes "list" ∷ (codes "--format=" ++ value) ∷ names) ≡ Some (table_job (format_table format) (or_standard_input names))
format_joined_job value format names reads plain once =
    listed ((codes "--format=" ++ value) ∷ []) (joined (format_row value)) (format_row value ∷ []) (format_made value)
    (format_joined value) (makes_format_joined value) names plain
    ∙ ap (option_and_then (λ (one : Format). made_of (format_table one) (or_standard_input names))) reads
    ∙ taken (format_table format) (or_standard_input names) (once_or_alone names once)

pub no_format_job : (value : Word) (names : List Word) → format_of value ≡ None → list_all is_plain names ≡ true
    → job_of (codes "list" ∷ (codes "--format=" ++ value) ∷ names) ≡ None
no_format_job value names reads plain =
    listed ((codes "--format=" ++ value) ∷ []) (joined (format_row value)) (format_row value ∷ []) (format_made value)
    (format_joined value) (makes_format_joined value) names plain
    ∙ ap (option_and_then (λ (one : Format). made_of (format_table one) (or_standard_input names))) reads

-- ---- `--side`

abbrev side_row : Word → Row
side_row value = row_of_value (default_rule (codes "side") (codes "either")) value

abbrev side_table : FocusSide → Table
side_table side = record default_table { side = side }

abbrev side_made : Word → List Word → Option Job
side_made value files = option_and_then (λ side. made_of (side_table side) files) (focus_side_of value)

clean-side : (value : Word) (done : List Word) (last : Word) → faults_from (built list_command) [] (after (side_row value ∷ []) false done last) ≡ []
unfolding defaults_fault
clean-side value [] last = refl
clean-side value (one ∷ more) last = refl

made-side : (value : Word) (done : List Word) (last : Word)
    → list_job_of (finished rules (after (side_row value ∷ []) false done last).held) ≡ side_made value (done ++ last ∷ [])
made-side value [] last = refl
made-side value (one ∷ more) last = refl

side_apart : (value : Word) → is_plain value ≡ true → Holds shape (codes "--side" ∷ value ∷ []) (apart (codes "side") value)
unfolding clap_on_literals
side_apart value plain =
    let no = plain_words value plain in
    record {
      walks = λ rest. ap (λ (at : Walk). fold (walked rules []) at rest) (rw (no.hyphens, no.long, no.short) refl);
      passes = λ rest. rw (no.hyphens, no.long, no.short) refl;
    }

makes_side_apart : (value : Word) → Makes list_command list_job_of (apart (codes "side") value) (side_row value ∷ []) (side_made value)
unfolding defaults_fault
makes_side_apart value = record {
  new = refl;
  met = record { settles = refl; passes = refl; other = refl };
  clean = clean-side value;
  made = made-side value;
  clean_alone = refl;
  made_alone = refl;
}

side_joined : (value : Word) → Holds shape ((codes "--side=" ++ value) ∷ []) (joined (side_row value))
unfolding clap_on_literals
side_joined value = record { walks = λ rest. refl; passes = λ rest. refl }

makes_side_joined : (value : Word) → Makes list_command list_job_of (joined (side_row value)) (side_row value ∷ []) (side_made value)
unfolding defaults_fault
makes_side_joined value = record {
  new = refl;
  met = record { settles = refl; passes = refl; other = refl };
  clean = clean-side value;
  made = made-side value;
  clean_alone = refl;
  made_alone = refl;
}

-- the word of a side begins with no hyphen
side_of-plain : (value : Word) (side : FocusSide) → focus_side_of value ≡ Some side → is_plain value ≡ true
side_of-plain value side reads = ap is_plain ((side-one_word value side).0 reads) ∙ by side
  where
    by : (one : FocusSide) → is_plain (side_word one) ≡ true
    by Either = refl
    by Source = refl
    by Destination = refl

pub side_apart_job : (value : Word) (side : FocusSide) (names : List Word) → focus_side_of value ≡ Some side → list_all is_plain names ≡ true → are_files names ≡ true
    → job_of (codes "list" ∷ codes "--side" ∷ value ∷ names) ≡ Some (table_job (side_table side) (or_standard_input names))
side_apart_job value side names reads plain once =
    listed (codes "--side" ∷ value ∷ []) (apart (codes "side") value) (side_row value ∷ []) (side_made value)
    (side_apart value (side_of-plain value side reads)) (makes_side_apart value) names plain
    ∙ ap (option_and_then (λ (one : FocusSide). made_of (side_table one) (or_standard_input names))) reads
    ∙ taken (side_table side) (or_standard_input names) (once_or_alone names once)

pub side_joined_job : (value : Word) (side : FocusSide) (names : List Word) → focus_side_of value ≡ Some side → list_all is_plain names ≡ true → are_files names ≡ true
    → job_of (codes "list" ∷ (codes "--side=" ++ value) ∷ names) ≡ Some (table_job (side_table side) (or_standard_input names))
side_joined_job value side names reads plain once =
    listed ((codes "--side=" ++ value) ∷ []) (joined (side_row value)) (side_row value ∷ []) (side_made value)
    (side_joined value) (makes_side_joined value) names plain
    ∙ ap (option_and_then (λ (one : FocusSide). made_of (side_table one) (or_standard_input names))) reads
    ∙ taken (side_table side) (or_standard_input names) (once_or_alone names once)

pub no_side_job : (value : Word) (names : List Word) → focus_side_of value ≡ None → list_all is_plain names ≡ true
    → job_of (codes "list" ∷ (codes "--side=" ++ value) ∷ names) ≡ None
no_side_job value names reads plain =
    listed ((codes "--side=" ++ value) ∷ []) (joined (side_row value)) (side_row value ∷ []) (side_made value)
    (side_joined value) (makes_side_joined value) names plain
    ∙ ap (option_and_then (λ (one : FocusSide). made_of (side_table one) (or_standard_input names))) reads
