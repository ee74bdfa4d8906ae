-- How many rules a run looks at. For `run_job` and `run`.
use Rattle.std.proofs.Common.{◌≡◌, ℕ, ◌≤◌, List, Option, None, Some, arith, subst}
use Rattle.np_cli.specs.Prelude.{Counted, Job, RoseAtMost, most_steps, ran, steps_in}
use Rattle.np_command.specs.Prelude.{SinkTrace}
use Rattle.np_frame.specs.Prelude.{AreTold, SourceTrace, input_names, objects_of}

-- no rule was looked at
RoseAtMost-still : (most : Option ℕ) (steps : ℕ) → RoseAtMost most steps steps
RoseAtMost-still (Some most) steps = omega arith
RoseAtMost-still None steps = tt

pub Counted-none : (asked : Option Job) (source : SourceTrace) (out : SinkTrace) (steps : ℕ) → Counted (ran asked source out) steps steps
Counted-none asked source out steps = record { least = omega arith; most = λ job texts is tells. RoseAtMost-still (most_steps job texts) steps }

-- the bytes that were read are those that the source told
pub Counted-read : (job : Job) (source : SourceTrace) (out : SinkTrace) (texts : List (List ℕ)) (before after : ℕ) →
    ((told : List (List ℕ)) → AreTold source.holds source.left (input_names job) told → texts ≡ told) → before ≤ after → RoseAtMost (steps_in job (objects_of job texts)) before after →
    Counted (ran (Some job) source out) before after
unfolding most_steps
Counted-read job source out texts before after read least most = record {
  least = least;
  most = λ other told is tells.
      let same : job ≡ other = cc in
      subst (λ (j : Job). RoseAtMost (most_steps j told) before after) same (subst (λ (ts : List (List ℕ)). RoseAtMost (most_steps job ts) before after) (read told tells) most);
}

-- ---- there are no more kinds than workloads
