-- The command line of `explain`: clap is exact for it, and what its values make.
-- For `ExplainWordsCommandWords::job` and `ends_are_read_of_their_options`.
use Rattle.std.proofs.Common.{◌≡◌, ◌∙◌, ◌∷◌, ◌++◌, [], ap, List, Option, Some, codes, refl}
use Rattle.clap.proofs.OnLiterals.{clap_on_literals}
use Rattle.clap.specs.Walk.{Row}
use Rattle.np_addr.specs.Prelude.{◌>>=◌}
use Rattle.np_args.specs.Prelude.{EndWord, Explain as ExplainJob, Job, Word, explain_of, files_in, job_of, packet_end_of, value_in}

-- the ends of these values, where each is there
abbrev ends_of : Option (List Word) → Option EndWord → Option EndWord → Option Job
ends_of files from to = do
  one ← files
  two ← from
  three ← to
  Some (ExplainJob two three one)

pub explain_of-values : (rows : List Row) (files : Option (List Word)) (from to : Option EndWord)
    → files_in rows ≡ files → value_in packet_end_of (codes "from") rows ≡ from → value_in packet_end_of (codes "to") rows ≡ to → explain_of rows ≡ ends_of files from to
explain_of-values rows files from to one two three = rw (one, two, three) refl

-- both options, and no file
asked_ends : (from to : Word) → job_of (codes "explain" ∷ (codes "--from=" ++ from) ∷ (codes "--to=" ++ to) ∷ []) ≡ ends_of (Some (codes "-" ∷ [])) (packet_end_of from) (packet_end_of to)
unfolding clap_on_literals
asked_ends from to = refl

pub explained_job : (from to : Word) (source destination : EndWord) → packet_end_of from ≡ Some source → packet_end_of to ≡ Some destination
    → job_of (codes "explain" ∷ (codes "--from=" ++ from) ∷ (codes "--to=" ++ to) ∷ []) ≡ Some (ExplainJob source destination (codes "-" ∷ []))
explained_job from to source destination one two =
    asked_ends from to
    ∙ ap (λ (value : Option EndWord). ends_of (Some (codes "-" ∷ [])) value (packet_end_of to)) one
    ∙ ap (ends_of (Some (codes "-" ∷ [])) (Some source)) two
