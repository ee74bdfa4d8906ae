-- The command line of `exposure`: clap is exact for it, and what its values make.
-- For `ExposureWordsCommandWords::job` and `exposure_is_of_all_or_of_one`.
use Rattle.std.proofs.Common.{◌≡◌, ◌∙◌, ◌∷◌, ◌++◌, [], ap, List, None, Option, Some, codes, refl}
use Rattle.clap.proofs.OnLiterals.{clap_on_literals}
use Rattle.clap.specs.Walk.{Row, first_of}
use Rattle.np_addr.specs.Prelude.{◌>>=◌}
use Rattle.np_args.specs.Prelude.{Exposure as ExposureJob, Format, Job, Plain, Word, exposure_of, files_in, format_of, job_of, value_in}

-- the workloads of these values, where each is there
abbrev shown_of : Option Format → Option (List Word) → Option Word → Option Job
shown_of format files workload = do
  one ← format
  two ← files
  Some (ExposureJob workload one two)

pub exposure_of-values : (rows : List Row) (format : Option Format) (files : Option (List Word)) (workload : Option Word)
    → value_in format_of (codes "format") rows ≡ format → files_in rows ≡ files → first_of (codes "workload") rows ≡ workload
    → exposure_of rows ≡ shown_of format files workload
exposure_of-values rows format files workload one two three = rw (one, two, three) refl

-- ---- words

pub all_exposed : job_of (codes "exposure" ∷ []) ≡ Some (ExposureJob None Plain (codes "-" ∷ []))
unfolding clap_on_literals
all_exposed = refl

-- the format, and no file
asked_format : (value : Word) → job_of (codes "exposure" ∷ (codes "--format=" ++ value) ∷ []) ≡ shown_of (format_of value) (Some (codes "-" ∷ [])) None
unfolding clap_on_literals
asked_format value = refl

-- the name, and no file
pub exposed_workload : (name : Word) → job_of (codes "exposure" ∷ (codes "--workload=" ++ name) ∷ []) ≡ Some (ExposureJob (Some name) Plain (codes "-" ∷ []))
unfolding clap_on_literals
exposed_workload name = refl

pub exposed_format : (value : Word) (format : Format) → format_of value ≡ Some format
    → job_of (codes "exposure" ∷ (codes "--format=" ++ value) ∷ []) ≡ Some (ExposureJob None format (codes "-" ∷ []))
exposed_format value format is = asked_format value ∙ ap (λ (one : Option Format). shown_of one (Some (codes "-" ∷ [])) None) is
