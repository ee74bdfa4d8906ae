use Rattle.std.proofs.Common.{subst, sym}
use Rattle.np_command_explain.proofs.ExplainLemmas.{asked-pods, ends-far}
use Rattle.np_command_explain.proofs.report.ends_between.Goals as goal
use Rattle.np_command_explain.specs.Prelude.{HasPods}
use Rattle.np_fold.specs.Prelude.{Folding}

pub destination_end-requires : goal.destination_end-requires
destination_end-requires c =
    subst (λ (folding : Folding). HasPods folding c.args.destination) (sym c.workloads-workloads.ensures.value) (asked-pods c.args.folded.now c.args.destination c.requires.destination)

pub source_end-requires : goal.source_end-requires
source_end-requires c =
    subst (λ (folding : Folding). HasPods folding c.args.source) (sym c.workloads-workloads.ensures.value) (asked-pods c.args.folded.now c.args.source c.requires.source)

pub returns-in-Some-clause-ends : goal.returns-in-Some-clause-ends
returns-in-Some-clause-ends c =
    ends-far c.args.folded.now c.workloads-workloads.result.now c.args.source c.args.destination c.source_end.result c.in-Some.far
    c.workloads-workloads.ensures.value c.requires.source c.requires.destination c.in-Some.ensures c.source_end.ensures
