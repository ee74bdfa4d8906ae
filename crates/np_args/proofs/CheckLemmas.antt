-- The command line of `check`: clap is exact for it, and what its values make. For `statement_is_read_after_its_option`.
use Rattle.std.proofs.Common.{◌≡◌, ◌∙◌, ◌+◌, ◌∷◌, ◌++◌, [], ap, arith, Bool, List, None, Option, Some, codes, false, fold, if◌then◌else◌, refl, sym, true, bytes_eq}
use Rattle.std.proofs.lemmas.Bool.{false_from_ne_true, false≢true, lt-ltb, ltb-true}
use Rattle.std.proofs.lemmas.List.Sums.{sum_by-cons}
use Rattle.std.specs.List.{count_by, list_all}
use Rattle.clap.proofs.OnLiterals.{clap_on_literals}
use Rattle.clap.specs.Faults.{defaults_fault}
use Rattle.clap.specs.Simple.{Shape, built}
use Rattle.clap.specs.Walk.{Row, Walk, finished, walked}
use Rattle.np_addr.specs.Prelude.{◌>>=◌}
use Rattle.np_args.proofs.BehindLemmas.{Holds, IsWalked, Makes, apart, faults_from, joined, optioned, row_of_value}
use Rattle.np_args.proofs.FileLemmas.{TakesFiles, after, plain_words}
use Rattle.np_args.specs.Prelude.{Check as CheckJob, Job, Word, are_files, check_command, check_of, checked_files, is_plain, job_of, or_standard_input, required_rule}

-- the statement file and the files, where each is there
abbrev pub checked_of : Option (List Word) → Option Word → Option Job
checked_of files statement = do
  one ← files
  two ← statement
  if are_files (two ∷ one) then Some (CheckJob two one) else None

-- ---- words

abbrev shape : Shape
shape = (built check_command).top

takes : TakesFiles shape
takes = record { by_place = refl; by_name = refl }

check_walked : IsWalked check_command (codes "check")
check_walked = record { fails = λ words. refl; finds = λ words. refl }

abbrev statement_row : Word → Row
statement_row value = row_of_value (required_rule (codes "statement")) value

-- what is made of the files behind a statement file
abbrev asks : Word → List Word → Option Job
asks statement files = checked_of (checked_files files) (Some statement)

clean : (value : Word) (done : List Word) (last : Word) → faults_from (built check_command) [] (after (statement_row value ∷ []) false done last) ≡ []
unfolding defaults_fault
clean value [] last = refl
clean value (one ∷ more) last = refl

made : (value : Word) (done : List Word) (last : Word) → check_of (finished shape.rules (after (statement_row value ∷ []) false done last).held) ≡ asks value (done ++ last ∷ [])
made value [] last = refl
made value (one ∷ more) last = refl

held_apart : (value : Word) → is_plain value ≡ true → Holds shape (codes "--statement" ∷ value ∷ []) (apart (codes "statement") value)
unfolding clap_on_literals
held_apart value plain =
    let no = plain_words value plain in
    record {
      walks = λ rest. ap (λ (at : Walk). fold (walked shape.rules []) at rest) (rw (no.hyphens, no.long, no.short) refl);
      passes = λ rest. rw (no.hyphens, no.long, no.short) refl;
    }

makes_apart : (value : Word) → Makes check_command check_of (apart (codes "statement") value) (statement_row value ∷ []) (asks value)
unfolding defaults_fault
makes_apart value = record {
  new = refl;
  met = record { settles = refl; passes = refl; other = refl };
  clean = clean value;
  made = made value;
  clean_alone = refl;
  made_alone = refl;
}

held_joined : (value : Word) → Holds shape ((codes "--statement=" ++ value) ∷ []) (joined (statement_row value))
unfolding clap_on_literals
held_joined value = record { walks = λ rest. refl; passes = λ rest. refl }

makes_joined : (value : Word) → Makes check_command check_of (joined (statement_row value)) (statement_row value ∷ []) (asks value)
unfolding defaults_fault
makes_joined value = record {
  new = refl;
  met = record { settles = refl; passes = refl; other = refl };
  clean = clean value;
  made = made value;
  clean_alone = refl;
  made_alone = refl;
}

-- one more name does not name standard input less often
abbrev is_standard_input : Word → Bool
is_standard_input name = bytes_eq name (codes "-")

often_with : (statement : Word) (files : List Word) → are_files files ≡ false → are_files (statement ∷ files) ≡ false
often_with statement files often =
    let more : count_by is_standard_input (statement ∷ files) ≡ (if is_standard_input statement then 1 else 0) + count_by is_standard_input files =
    sum_by-cons (λ name. if is_standard_input name then 1 else 0) statement files in
    false_from_ne_true _ (λ once. false≢true (sym often ∙ lt-ltb (count_by is_standard_input files) 2 (omega (arith, more, ltb-true (count_by is_standard_input (statement ∷ files)) 2 once))))

-- the files are checked with the statement file
with_statement : (statement : Word) (files : List Word) → asks statement files ≡ (if are_files (statement ∷ files) then Some (CheckJob statement files) else None)
with_statement statement files = go (are_files files) refl
  where
    go : (few : Bool) → are_files files ≡ few → asks statement files ≡ (if are_files (statement ∷ files) then Some (CheckJob statement files) else None)
    go true once = rw once refl
    go false often =
        ap (λ (few : Bool). checked_of (if few then Some files else None) (Some statement)) often
        ∙ sym (ap (λ (few : Bool). if few then Some (CheckJob statement files) else None) (often_with statement files often))

asked_apart : (statement : Word) (names : List Word) → is_plain statement ≡ true → list_all is_plain names ≡ true
    → job_of (codes "check" ∷ codes "--statement" ∷ statement ∷ names)
    ≡ (if are_files (statement ∷ or_standard_input names) then Some (CheckJob statement (or_standard_input names)) else None)
asked_apart statement names word plain =
    optioned check_command check_of (codes "check") check_walked takes (codes "--statement" ∷ statement ∷ []) (apart (codes "statement") statement) (statement_row statement ∷ []) (asks statement)
    (held_apart statement word) (makes_apart statement) names plain
    ∙ with_statement statement (or_standard_input names)

asked_joined : (statement : Word) (names : List Word) → list_all is_plain names ≡ true
    → job_of (codes "check" ∷ (codes "--statement=" ++ statement) ∷ names)
    ≡ (if are_files (statement ∷ or_standard_input names) then Some (CheckJob statement (or_standard_input names)) else None)
asked_joined statement names plain =
    optioned check_command check_of (codes "check") check_walked takes ((codes "--statement=" ++ statement) ∷ []) (joined (statement_row statement)) (statement_row statement ∷ []) (asks statement)
    (held_joined statement) (makes_joined statement) names plain
    ∙ with_statement statement (or_standard_input names)

pub statement_apart : (statement : Word) (names : List Word) → is_plain statement ≡ true → list_all is_plain names ≡ true → are_files (statement ∷ or_standard_input names) ≡ true
    → job_of (codes "check" ∷ codes "--statement" ∷ statement ∷ names) ≡ Some (CheckJob statement (or_standard_input names))
statement_apart statement names word plain once =
    asked_apart statement names word plain ∙ ap (λ (few : Bool). if few then Some (CheckJob statement (or_standard_input names)) else None) once

pub statement_joined : (statement : Word) (names : List Word) → list_all is_plain names ≡ true → are_files (statement ∷ or_standard_input names) ≡ true
    → job_of (codes "check" ∷ (codes "--statement=" ++ statement) ∷ names) ≡ Some (CheckJob statement (or_standard_input names))
statement_joined statement names plain once =
    asked_joined statement names plain ∙ ap (λ (few : Bool). if few then Some (CheckJob statement (or_standard_input names)) else None) once

pub statement_twice : (statement : Word) (names : List Word) → list_all is_plain names ≡ true → are_files (statement ∷ or_standard_input names) ≡ false
    → job_of (codes "check" ∷ (codes "--statement=" ++ statement) ∷ names) ≡ None
statement_twice statement names plain often =
    asked_joined statement names plain ∙ ap (λ (few : Bool). if few then Some (CheckJob statement (or_standard_input names)) else None) often

pub statement_alone : job_of (codes "check" ∷ codes "--statement" ∷ codes "-" ∷ []) ≡ None
statement_alone = asked_apart (codes "-") [] refl refl

pub no_statement : job_of (codes "check" ∷ []) ≡ None
unfolding clap_on_literals
no_statement = refl
