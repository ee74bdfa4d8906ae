use Rattle.std.proofs.Common.{List, ℕ, [], ◌∷◌, ◌++◌, map, take, ap, sym, subst, ◌∙◌}
use Rattle.std.specs.Prelude.{All}
use Rattle.std.proofs.lemmas.List.{map-append, take_more}
use Rattle.std.proofs.lemmas.List.Elements.{All-get_or}
use Rattle.np_fold.specs.Prelude.{Folding}
use Rattle.np_rules.specs.Prelude.{PodEnd, pod_end}
use Rattle.np_kinds.proofs.KindNumbers.{firsts-workloads}
use Rattle.np_kinds.proofs.kind_reach.first_pods.Goals as goal
use Rattle.np_kinds.specs.Prelude.{IsWorkload, first_end}

pub first_pod-requires : goal.first_pod-requires
first_pod-requires c =
    let is = c.first_of_kinds-workload-items.ensures ∙ ap (λ (f : Folding). f.first_of_kinds) c.workloads.ensures.value in
    All-get_or (IsWorkload c.args.folded.now) c.first_of_kinds-workload-items.result.now c.loop-workload.workload-index 0 c.loop-workload-test.true
    (subst (λ (firsts : List ℕ). All (IsWorkload c.args.folded.now) firsts) (sym is) (firsts-workloads c.args.folded.now))

pub loop-workload-preserved : goal.loop-workload-preserved
loop-workload-preserved c =
    let firsts = c.first_of_kinds-workload-items.result.now in
    let index = c.loop-workload.workload-index in
    let end = first_end c.args.folded.now in
    ap (map (λ one. pod_end one.now)) c.in_ok-push.ensures.items
    ∙ map-append (λ one. pod_end one.now) c.loop-workload.firsts.items _
    ∙ ap (λ (ends : List PodEnd). ends ++ pod_end c.first_pod.result.now ∷ []) c.loop-workload.invariant
    ∙ ap (λ (last : PodEnd). map end (take index firsts) ++ last ∷ []) c.first_pod.ensures
    ∙ sym (ap (map end) (take_more firsts index 0 c.loop-workload-test.true) ∙ map-append end (take index firsts) _)
