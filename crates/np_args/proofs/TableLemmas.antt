-- What the words of `list` ask for: files, and options before them. For `controller_is_any_name`, `focus_is_any_name` and 3 more.
use Rattle.std.proofs.Common.{◌≡◌, ◌∙◌, ◌==◌, ◌++◌, ap, List, [], ◌∷◌, Bool, true, false, Option, Some, None, codes, append_assoc, fold, if◌then◌else◌, option_and_then, refl, sym}
use Rattle.std.proofs.lemmas.Bool.{eqb-true}
use Rattle.std.proofs.lemmas.Option.{none-some}
use Rattle.std.specs.List.{list_all}
use Rattle.clap.proofs.OnLiterals.{clap_on_literals}
use Rattle.clap.specs.Faults.{defaults_fault}
use Rattle.clap.specs.Simple.{built}
use Rattle.clap.specs.Walk.{Held, Row, Walk, finished, nothing_held, walked}
use Rattle.np_args.proofs.BehindLemmas.{Holds, Makes, apart, asked, faults_from, joined, nothing_holds, nothing_met, once_or_alone, optioned, row_of_value}
use Rattle.np_args.proofs.FileLemmas.{Ends, after, begun_end, end, front, in_order, plain_words, split_end}
use Rattle.np_args.proofs.ListLemmas.{list_walked, rules, shape, takes}
use Rattle.np_args.specs.Prelude.{Job, Report, Two, Word, are_files, checked_files, default_rule, is_plain, job_of, list_command, list_job_of, option_rule, or_standard_input, report_of, text_table}

-- ---- words of `list`

-- what is held gives this job with any files, and without them
abbrev MakesTable : Held → List Row → (List Word → Option Job) → Type 0
MakesTable held options gives = Makes list_command list_job_of held options gives

asked_list : (words : List Word) (final : Walk) → Ends shape nothing_held words final → faults_from (built list_command) [] final ≡ []
    → job_of (codes "list" ∷ words) ≡ list_job_of (finished rules final.held)
asked_list words final ends clean = asked list_command list_job_of (codes "list") list_walked words final ends clean

optioned_job : (first : List Word) (held : Held) (options : List Row) (gives : List Word → Option Job)
    → Holds shape first held → MakesTable held options gives → (names : List Word) → list_all is_plain names ≡ true
    → job_of (codes "list" ∷ first ++ names) ≡ gives (or_standard_input names)
optioned_job first held options gives holds makes names plain = optioned list_command list_job_of (codes "list") list_walked takes first held options gives holds makes names plain

-- the table of files that name standard input at most once
abbrev made_of : Report → Option Word → Option Word → List Word → Option Job
made_of report controller focus files = option_and_then (λ names. Some (text_table report controller focus names)) (checked_files files)

taken : (report : Report) (controller focus : Option Word) (files : List Word) → are_files files ≡ true → made_of report controller focus files ≡ Some (text_table report controller focus files)
taken report controller focus files once =
    ap (λ (few : Bool). option_and_then (λ (names : List Word). Some (text_table report controller focus names)) (if few then Some files else None)) once

-- ---- no option

clean-none : (trailing : Bool) (done : List Word) (last : Word) → faults_from (built list_command) [] (after [] trailing done last) ≡ []
unfolding defaults_fault
clean-none trailing [] last = refl
clean-none trailing (one ∷ more) last = refl

made-none : (trailing : Bool) (done : List Word) (last : Word) → list_job_of (finished rules (after [] trailing done last).held) ≡ made_of Two None None (done ++ last ∷ [])
made-none trailing [] last = refl
made-none trailing (one ∷ more) last = refl

makes_none : MakesTable nothing_held [] (made_of Two None None)
unfolding defaults_fault
makes_none = record {
  new = refl;
  met = nothing_met shape;
  clean = clean-none false;
  made = made-none false;
  clean_alone = refl;
  made_alone = refl;
}

pub plain_job : (names : List Word) → list_all is_plain names ≡ true → are_files names ≡ true → job_of (codes "list" ∷ names) ≡ Some (text_table Two None None (or_standard_input names))
plain_job names plain once =
    optioned_job [] nothing_held [] (made_of Two None None) (nothing_holds shape) makes_none names plain
    ∙ taken Two None None (or_standard_input names) (once_or_alone names once)

pub split_job : (names others : List Word) → list_all is_plain names ≡ true → are_files (names ++ others) ≡ true
    → job_of (codes "list" ∷ names ++ codes "--" ∷ others) ≡ Some (text_table Two None None (or_standard_input (names ++ others)))
unfolding clap_on_literals
split_job [] [] plain once = refl
split_job [] (other ∷ others) plain once =
    asked_list (codes "--" ∷ other ∷ others) _ (begun_end shape takes [] refl nothing_held (nothing_met shape) other others) (clean-none true (front [] other others) (end other others))
    ∙ made-none true (front [] other others) (end other others) ∙ ap (made_of Two None None) (in_order [] other others) ∙ taken Two None None (other ∷ others) once
split_job (word ∷ words) others plain once =
    let done = front [] word words in
    let last = end word words in
    let files : front done last others ++ end last others ∷ [] ≡ word ∷ words ++ others =
    in_order done last others ∙ sym (append_assoc done (last ∷ []) others) ∙ ap (λ (before : List Word). before ++ others) (in_order [] word words) in
    asked_list (word ∷ words ++ codes "--" ∷ others) _ (split_end shape takes [] refl nothing_held (nothing_met shape) word words others plain)
    (clean-none true (front done last others) (end last others))
    ∙ made-none true (front done last others) (end last others) ∙ ap (made_of Two None None) files ∙ taken Two None None (word ∷ words ++ others) once

-- ---- `--report`

abbrev report_row : Word → Row
report_row value = row_of_value (default_rule (codes "report") (codes "2")) value

abbrev report_made : Word → List Word → Option Job
report_made value files = option_and_then (λ report. made_of report None None files) (report_of value)

clean-report : (value : Word) (done : List Word) (last : Word) → faults_from (built list_command) [] (after (report_row value ∷ []) false done last) ≡ []
unfolding defaults_fault
clean-report value [] last = refl
clean-report value (one ∷ more) last = refl

made-report : (value : Word) (done : List Word) (last : Word)
    → list_job_of (finished rules (after (report_row value ∷ []) false done last).held) ≡ report_made value (done ++ last ∷ [])
made-report value [] last = refl
made-report value (one ∷ more) last = refl

report_apart : (value : Word) → is_plain value ≡ true → Holds shape (codes "--report" ∷ value ∷ []) (apart (codes "report") value)
unfolding clap_on_literals
report_apart value plain =
    let no = plain_words value plain in
    record {
      walks = λ rest. ap (λ (at : Walk). fold (walked rules []) at rest) (rw (no.hyphens, no.long, no.short) refl);
      passes = λ rest. rw (no.hyphens, no.long, no.short) refl;
    }

makes_report_apart : (value : Word) → MakesTable (apart (codes "report") value) (report_row value ∷ []) (report_made value)
unfolding defaults_fault
makes_report_apart value = record {
  new = refl;
  met = record { settles = refl; passes = refl; other = refl };
  clean = clean-report value;
  made = made-report value;
  clean_alone = refl;
  made_alone = refl;
}

report_joined : (value : Word) → Holds shape ((codes "--report=" ++ value) ∷ []) (joined (report_row value))
unfolding clap_on_literals
report_joined value = record { walks = λ rest. refl; passes = λ rest. refl }

makes_report_joined : (value : Word) → MakesTable (joined (report_row value)) (report_row value ∷ []) (report_made value)
unfolding defaults_fault
makes_report_joined value = record {
  new = refl;
  met = record { settles = refl; passes = refl; other = refl };
  clean = clean-report value;
  made = made-report value;
  clean_alone = refl;
  made_alone = refl;
}

-- a report begins with no hyphen
report_of-plain : (value : Word) (report : Report) → report_of value ≡ Some report → is_plain value ≡ true
report_of-plain [] report reads = refl
report_of-plain (first ∷ rest) report reads = go (first == 45) refl
  where
    go : (b : Bool) → (first == 45) ≡ b → is_plain (first ∷ rest) ≡ true
    go false other = rw other refl
    go true same = absurd (none-some report (rw (eqb-true first 45 same) at reads))

pub report_apart_job : (value : Word) (report : Report) (names : List Word) → report_of value ≡ Some report → list_all is_plain names ≡ true → are_files names ≡ true
    → job_of (codes "list" ∷ codes "--report" ∷ value ∷ names) ≡ Some (text_table report None None (or_standard_input names))
report_apart_job value report names reads plain once =
    optioned_job (codes "--report" ∷ value ∷ []) (apart (codes "report") value) (report_row value ∷ []) (report_made value)
    (report_apart value (report_of-plain value report reads)) (makes_report_apart value) names plain
    ∙ ap (option_and_then (λ (one : Report). made_of one None None (or_standard_input names))) reads
    ∙ taken report None None (or_standard_input names) (once_or_alone names once)

pub report_joined_job : (value : Word) (report : Report) (names : List Word) → report_of value ≡ Some report → list_all is_plain names ≡ true → are_files names ≡ true
    → job_of (codes "list" ∷ (codes "--report=" ++ value) ∷ names) ≡ Some (text_table report None None (or_standard_input names))
report_joined_job value report names reads plain once =
    optioned_job ((codes "--report=" ++ value) ∷ []) (joined (report_row value)) (report_row value ∷ []) (report_made value)
    (report_joined value) (makes_report_joined value) names plain
    ∙ ap (option_and_then (λ (one : Report). made_of one None None (or_standard_input names))) reads
    ∙ taken report None None (or_standard_input names) (once_or_alone names once)

pub no_report_job : (value : Word) (names : List Word) → report_of value ≡ None → list_all is_plain names ≡ true
    → job_of (codes "list" ∷ (codes "--report=" ++ value) ∷ names) ≡ None
no_report_job value names reads plain =
    optioned_job ((codes "--report=" ++ value) ∷ []) (joined (report_row value)) (report_row value ∷ []) (report_made value)
    (report_joined value) (makes_report_joined value) names plain
    ∙ ap (option_and_then (λ (one : Report). made_of one None None (or_standard_input names))) reads

-- ---- `--controller`

abbrev controller_row : Word → Row
controller_row value = row_of_value (option_rule (codes "controller")) value

clean-controller : (value : Word) (done : List Word) (last : Word) → faults_from (built list_command) [] (after (controller_row value ∷ []) false done last) ≡ []
unfolding defaults_fault
clean-controller value [] last = refl
clean-controller value (one ∷ more) last = refl

made-controller : (value : Word) (done : List Word) (last : Word)
    → list_job_of (finished rules (after (controller_row value ∷ []) false done last).held) ≡ made_of Two (Some value) None (done ++ last ∷ [])
made-controller value [] last = refl
made-controller value (one ∷ more) last = refl

controller_apart : (value : Word) → is_plain value ≡ true → Holds shape (codes "--controller" ∷ value ∷ []) (apart (codes "controller") value)
unfolding clap_on_literals
controller_apart value plain =
    let no = plain_words value plain in
    record {
      walks = λ rest. ap (λ (at : Walk). fold (walked rules []) at rest) (rw (no.hyphens, no.long, no.short) refl);
      passes = λ rest. rw (no.hyphens, no.long, no.short) refl;
    }

makes_controller_apart : (value : Word) → MakesTable (apart (codes "controller") value) (controller_row value ∷ []) (made_of Two (Some value) None)
unfolding defaults_fault
makes_controller_apart value = record {
  new = refl;
  met = record { settles = refl; passes = refl; other = refl };
  clean = clean-controller value;
  made = made-controller value;
  clean_alone = refl;
  made_alone = refl;
}

controller_joined : (value : Word) → Holds shape ((codes "--controller=" ++ value) ∷ []) (joined (controller_row value))
unfolding clap_on_literals
controller_joined value = record { walks = λ rest. refl; passes = λ rest. refl }

makes_controller_joined : (value : Word) → MakesTable (joined (controller_row value)) (controller_row value ∷ []) (made_of Two (Some value) None)
unfolding defaults_fault
makes_controller_joined value = record {
  new = refl;
  met = record { settles = refl; passes = refl; other = refl };
  clean = clean-controller value;
  made = made-controller value;
  clean_alone = refl;
  made_alone = refl;
}

pub controller_apart_job : (value : Word) (names : List Word) → is_plain value ≡ true → list_all is_plain names ≡ true → are_files names ≡ true
    → job_of (codes "list" ∷ codes "--controller" ∷ value ∷ names) ≡ Some (text_table Two (Some value) None (or_standard_input names))
controller_apart_job value names word plain once =
    optioned_job (codes "--controller" ∷ value ∷ []) (apart (codes "controller") value) (controller_row value ∷ []) (made_of Two (Some value) None)
    (controller_apart value word) (makes_controller_apart value) names plain
    ∙ taken Two (Some value) None (or_standard_input names) (once_or_alone names once)

pub controller_joined_job : (value : Word) (names : List Word) → list_all is_plain names ≡ true → are_files names ≡ true
    → job_of (codes "list" ∷ (codes "--controller=" ++ value) ∷ names) ≡ Some (text_table Two (Some value) None (or_standard_input names))
controller_joined_job value names plain once =
    optioned_job ((codes "--controller=" ++ value) ∷ []) (joined (controller_row value)) (controller_row value ∷ []) (made_of Two (Some value) None)
    (controller_joined value) (makes_controller_joined value) names plain
    ∙ taken Two (Some value) None (or_standard_input names) (once_or_alone names once)

-- ---- `--focus`

abbrev focus_row : Word → Row
focus_row value = row_of_value (option_rule (codes "focus")) value

clean-focus : (value : Word) (done : List Word) (last : Word) → faults_from (built list_command) [] (after (focus_row value ∷ []) false done last) ≡ []
unfolding defaults_fault
clean-focus value [] last = refl
clean-focus value (one ∷ more) last = refl

made-focus : (value : Word) (done : List Word) (last : Word)
    → list_job_of (finished rules (after (focus_row value ∷ []) false done last).held) ≡ made_of Two None (Some value) (done ++ last ∷ [])
made-focus value [] last = refl
made-focus value (one ∷ more) last = refl

focus_apart : (value : Word) → is_plain value ≡ true → Holds shape (codes "--focus" ∷ value ∷ []) (apart (codes "focus") value)
unfolding clap_on_literals
focus_apart value plain =
    let no = plain_words value plain in
    record {
      walks = λ rest. ap (λ (at : Walk). fold (walked rules []) at rest) (rw (no.hyphens, no.long, no.short) refl);
      passes = λ rest. rw (no.hyphens, no.long, no.short) refl;
    }

makes_focus_apart : (value : Word) → MakesTable (apart (codes "focus") value) (focus_row value ∷ []) (made_of Two None (Some value))
unfolding defaults_fault
makes_focus_apart value = record {
  new = refl;
  met = record { settles = refl; passes = refl; other = refl };
  clean = clean-focus value;
  made = made-focus value;
  clean_alone = refl;
  made_alone = refl;
}

focus_joined : (value : Word) → Holds shape ((codes "--focus=" ++ value) ∷ []) (joined (focus_row value))
unfolding clap_on_literals
focus_joined value = record { walks = λ rest. refl; passes = λ rest. refl }

makes_focus_joined : (value : Word) → MakesTable (joined (focus_row value)) (focus_row value ∷ []) (made_of Two None (Some value))
unfolding defaults_fault
makes_focus_joined value = record {
  new = refl;
  met = record { settles = refl; passes = refl; other = refl };
  clean = clean-focus value;
  made = made-focus value;
  clean_alone = refl;
  made_alone = refl;
}

pub focus_apart_job : (value : Word) (names : List Word) → is_plain value ≡ true → list_all is_plain names ≡ true → are_files names ≡ true
    → job_of (codes "list" ∷ codes "--focus" ∷ value ∷ names) ≡ Some (text_table Two None (Some value) (or_standard_input names))
focus_apart_job value names word plain once =
    optioned_job (codes "--focus" ∷ value ∷ []) (apart (codes "focus") value) (focus_row value ∷ []) (made_of Two None (Some value))
    (focus_apart value word) (makes_focus_apart value) names plain
    ∙ taken Two None (Some value) (or_standard_input names) (once_or_alone names once)

pub focus_joined_job : (value : Word) (names : List Word) → list_all is_plain names ≡ true → are_files names ≡ true
    → job_of (codes "list" ∷ (codes "--focus=" ++ value) ∷ names) ≡ Some (text_table Two None (Some value) (or_standard_input names))
focus_joined_job value names plain once =
    optioned_job ((codes "--focus=" ++ value) ∷ []) (joined (focus_row value)) (focus_row value ∷ []) (made_of Two None (Some value))
    (focus_joined value) (makes_focus_joined value) names plain
    ∙ taken Two None (Some value) (or_standard_input names) (once_or_alone names once)
