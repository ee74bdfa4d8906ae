use Rattle.std.proofs.Common.{◌≡◌, ◌∙◌, List, ap, false, get_or, ℕ, arith}
use Rattle.std.proofs.lemmas.Bool.{false≢true}
use Rattle.np_fold.specs.Prelude.{Folding, folding_of}
use Rattle.np_kinds.specs.Prelude.{source_pod}
use Rattle.np_unused.proofs.KindStepLemmas.{count_more, each_more, first_workload}
use Rattle.np_unused.proofs.kind_pods.first_pods.Goals as goal
use Rattle.np_unused.specs.Prelude.{KindPod}

pub first_place-pod-requires : goal.first_place-pod-requires
first_place-pod-requires c = first_workload c.args.folded.now c.first_of_kinds-workload-items.result.now c.loop-workload.workload-index
    (c.first_of_kinds-workload-items.ensures ∙ ap (λ (f : Folding). f.first_of_kinds) c.workloads-workloads.ensures.value) c.loop-workload-test.true

pub loop-workload-preserved : goal.loop-workload-preserved
loop-workload-preserved c =
    let lists = c.args.folded.now in
    let place = c.loop-workload.workload-index in
    let one : KindPod = record { pod = c.first_place-pod.result; is_shared = false } in
    let are : c.first_of_kinds-workload-items.result.now ≡ (folding_of lists).first_of_kinds = c.first_of_kinds-workload-items.ensures ∙ ap (λ (f : Folding). f.first_of_kinds)
    c.workloads-workloads.ensures.value in
    record {
      count = count_more c.loop-workload.kinds.items c.push.new.self.items one place c.loop-workload.invariant.count c.in_ok-push.ensures.items;
      each = each_more lists 0 c.loop-workload.kinds.items c.push.new.self.items one place c.loop-workload.invariant.count c.loop-workload.invariant.each
          (record {
            pod = c.first_place-pod.ensures.value ∙ ap (λ (all : List ℕ). source_pod (folding_of lists) (get_or all place 0)) are;
            shared = λ shared. absurd (false≢true shared);
            alone = λ _ p below _. absurd (omega arith);
          })
          c.in_ok-push.ensures.items;
    }
