-- What a report of `sample` says. For crates above.
use Rattle.std.proofs.Common.{◌≡◌, ℕ, ◌≤◌, [], ◌∷◌, true, Result, Ok, arith, refl, subst}
use Rattle.std.specs.Prelude.{nat_le}
use Rattle.std.proofs.lemmas.Bool.{le-leb}
use Rattle.np_command.specs.Prelude.{SinkTrace, TookWhole, lists_of, small_estate}
use Rattle.np_command.specs.declared.fault.Fault.{Fault}
use Rattle.np_command_sample.proofs.SampleLemmas.{estate_of-sample}
use Rattle.np_command_sample.proofs.WorkloadLemmas.{workload_count-sample}
use Rattle.np_command_sample.specs.Prelude.{CountsAll, sample_estate, sample_summary}
use Rattle.np_sample.specs.Prelude.{sample_text}
use Rattle.np_model.specs.declared.lists.EstateLists.{EstateLists}
use Rattle.np_fold.specs.Prelude.{workload_count}
use Rattle.np_fold.specs.declared.workloads.TheConstants.{MOST_WORKLOADS}

-- what is read of the text of a sample
pub lists_of-sample : (n : ℕ) → n ≤ 1000 → lists_of (sample_text n ∷ []) ≡ Ok (sample_estate n)
unfolding small_estate
lists_of-sample n few =
    let within : nat_le (workload_count (sample_estate n)) MOST_WORKLOADS ≡ true = le-leb (workload_count (sample_estate n)) MOST_WORKLOADS (omega (arith, workload_count-sample n)) in
    rw (estate_of-sample n few, within) refl

pub one_estate : (lists other : EstateLists) (reads : Result EstateLists Fault) → reads ≡ Ok lists → reads ≡ Ok other → lists ≡ other
one_estate lists other reads is is_other = cc

-- a whole report of a sample of few pods says what is read of it
pub promised : (out : SinkTrace) (n : ℕ) (lists : EstateLists) → n ≤ 1000 → lists_of (sample_text n ∷ []) ≡ Ok lists → TookWhole out (sample_summary lists) → CountsAll out n
promised out n lists few read took = record {
  read = lists_of-sample n few;
  printed = subst (λ (all : EstateLists). TookWhole out (sample_summary all)) (one_estate lists (sample_estate n) (lists_of (sample_text n ∷ [])) read (lists_of-sample n few)) took;
}
