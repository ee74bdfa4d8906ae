-- The command lines that take files alone: clap is exact for them, and which files they name. For `words_without_options_are_files`.
use Rattle.std.proofs.Common.{◌≡◌, ◌∙◌, ◌∷◌, ◌++◌, [], ap, Bool, List, None, Some, codes, false, if◌then◌else◌, option_map, refl, true}
use Rattle.std.specs.List.{list_all}
use Rattle.clap.specs.Faults.{defaults_fault}
use Rattle.clap.specs.Simple.{built}
use Rattle.clap.specs.Walk.{finished, nothing_held}
use Rattle.np_args.proofs.BehindLemmas.{IsWalked, Makes, faults_from, nothing_holds, nothing_met, once_or_alone, optioned}
use Rattle.np_args.proofs.FileLemmas.{TakesFiles, after}
use Rattle.np_args.specs.Prelude.{Flatten as FlattenJob, Job, Unused as UnusedJob, Word, are_files, asked_of, checked_files, files_command, files_of, is_plain, job_of, or_standard_input}

-- ---- words

takes : (name : Word) → TakesFiles (built (files_command name)).top
takes name = record { by_place = refl; by_name = refl }

files_walked : (name : Word) → IsWalked (files_command name) name
files_walked name = record { fails = λ words. refl; finds = λ words. refl }

clean : (name : Word) (done : List Word) (last : Word) → faults_from (built (files_command name)) [] (after [] false done last) ≡ []
unfolding defaults_fault
clean name [] last = refl
clean name (one ∷ more) last = refl

-- of the files any job is made
module _ (job : List Word → Job) where
  made : (name : Word) (done : List Word) (last : Word) → files_of job (finished (built (files_command name)).top.rules (after [] false done last).held) ≡ option_map job (checked_files (done ++ last ∷ []))
  made name [] last = refl
  made name (one ∷ more) last = refl

  makes_files : (name : Word) → Makes (files_command name) (files_of job) nothing_held [] (λ files. option_map job (checked_files files))
  unfolding defaults_fault
  makes_files name = record {
    new = refl;
    met = nothing_met (built (files_command name)).top;
    clean = clean name;
    made = made name;
    clean_alone = refl;
    made_alone = refl;
  }

  -- words that are no options are files
  files_named : (name : Word) (names : List Word) → list_all is_plain names ≡ true → are_files names ≡ true → asked_of (files_command name) (files_of job) (name ∷ names) ≡ Some (job (or_standard_input names))
  files_named name names plain once =
      optioned (files_command name) (files_of job) name (files_walked name) (takes name) [] nothing_held [] (λ files. option_map job (checked_files files))
      (nothing_holds (built (files_command name)).top) (makes_files name) names plain
      ∙ ap (λ (few : Bool). option_map job (if few then Some (or_standard_input names) else None)) (once_or_alone names once)

pub unused_files : (names : List Word) → list_all is_plain names ≡ true → are_files names ≡ true → job_of (codes "unused" ∷ names) ≡ Some (UnusedJob (or_standard_input names))
unused_files names plain once = files_named UnusedJob (codes "unused") names plain once

pub flatten_files : (names : List Word) → list_all is_plain names ≡ true → are_files names ≡ true → job_of (codes "flatten" ∷ names) ≡ Some (FlattenJob (or_standard_input names))
flatten_files names plain once = files_named FlattenJob (codes "flatten") names plain once
