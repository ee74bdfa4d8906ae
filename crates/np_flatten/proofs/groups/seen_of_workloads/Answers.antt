use Rattle.std.proofs.Common.{List, ℕ, ap, ◌∙◌}
use Rattle.np_fold.proofs.PartLemmas.{relevant-ascend}
use Rattle.np_fold.specs.Prelude.{Folding, folding_of}
use Rattle.np_rules.specs.Prelude.{PodEnd, pod_end}
use Rattle.np_flatten.proofs.GroupLemmas.{one_more}
use Rattle.np_flatten.proofs.groups.seen_of_workloads.Goals as goal
use Rattle.np_flatten.specs.Prelude.{seen, seen_at}

pub seen_of-requires : goal.seen_of-requires
seen_of-requires c = relevant-ascend c.args.folded.now c.relevant-keys.result.now (c.relevant-keys.ensures ∙ ap (λ (folding : Folding). folding.relevant) c.workloads.ensures.value)

pub loop-workload-preserved : goal.loop-workload-preserved
loop-workload-preserved c =
    let keys = c.relevant-keys.ensures ∙ ap (λ (folding : Folding). folding.relevant) c.workloads.ensures.value in
    c.in_ok-push.ensures.items
    ∙ one_more (seen_at c.args.folded.now) c.loop-workload.workload c.loop-workload.made.items c.in_ok-seen_of.field-0 c.loop-workload.invariant
    (c.in_ok-seen_of.ensures ∙ ap (λ (all : List (List ℕ)). seen all (pod_end c.first_pod.result.now)) keys ∙ ap (λ (p : PodEnd). seen (folding_of c.args.folded.now).relevant p) c.first_pod.ensures)
