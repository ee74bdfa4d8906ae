-- The pods of a workload have one list of rows. For `workloads_stand_for_their_pods_to_strangers`.
use Rattle.std.proofs.Common.{◌≡◌, ◌<◌, ℕ, Some, length, slice_get, refl, sym, ap, ◌∙◌, inr}
use Rattle.np_base.proofs.Lists.{slice_get-some}
use Rattle.np_command_exposure.specs.Types.{Direction, Egress, EstateLists, Ingress, Stranger}
use Rattle.np_exposure.proofs.SameSideLemmas.{rows-same}
use Rattle.np_exposure.specs.Prelude.{Four, PortSpot, exposes, mentions, rows_of}
use Rattle.np_fold.proofs.WorkloadLemmas.{one_workload}
use Rattle.np_fold.specs.Prelude.{IsSameKind, workload_number}
use Rattle.np_kinds.proofs.KindVerdicts.{SameKindEnd, SameKindEnd-ends, got-same, kind-places, sent-same}
use Rattle.np_kinds.proofs.PairLemmas.{one_kind-by}
use Rattle.np_model.specs.Prelude.{IsLawful}
use Rattle.np_model.specs.declared.pod.Pod.{Pod}
use Rattle.np_rules.proofs.DeciderLemmas.{decider_says}
use Rattle.np_rules.specs.Prelude.{decider_allows, pod, pod_at, side_of, stranger_end}

module _ (lists : EstateLists) (p q : ℕ) (direction : Direction) (lawful : IsLawful lists) (p_in : p < length lists.pods) (q_in : q < length lists.pods)
    (one : workload_number lists p ≡ workload_number lists q) where
  -- both pods are there
  there : ((a : Pod) × (slice_get lists.pods p ≡ Some a)) × ((b : Pod) × (slice_get lists.pods q ≡ Some b))
  there = (slice_get-some lists.pods p p_in, slice_get-some lists.pods q q_in)

  kind : IsSameKind lists there.0.0 there.1.0
  kind = ((one_workload lists p q there.0.0 there.1.0 there.0.1 there.1.1).0 one).kind

  near : SameKindEnd lists (pod (pod_at lists p)) (pod (pod_at lists q))
  near = SameKindEnd-ends lists _ _ (one_kind-by lists p q there.0.0 there.1.0 lawful there.0.1 there.1.1 kind)

  workload-mentions : mentions (side_of lists p direction) ≡ mentions (side_of lists q direction)
  unfolding mentions
  workload-mentions = let same = kind-places lists direction (pod_at lists p) (pod_at lists q) near in rw (same.admin, same.net, same.base) refl

  -- every hypothetical pod has one exposure at both
  pub workload-exposes : (s : Stranger) (spot : PortSpot) → exposes (side_of lists p direction) s spot ≡ exposes (side_of lists q direction) s spot
  workload-exposes s spot = by direction
    where
      far : SameKindEnd lists (pod (stranger_end s)) (pod (stranger_end s))
      far = SameKindEnd-ends lists _ _ (inr refl)

      by : (d : Direction) → exposes (side_of lists p d) s spot ≡ exposes (side_of lists q d) s spot
      by Ingress =
          sym (decider_says lists Ingress (pod (pod_at lists p)) _) ∙ ap decider_allows (got-same lists Four spot _ _ _ _ far near)
          ∙ decider_says lists Ingress (pod (pod_at lists q)) _
      by Egress =
          sym (decider_says lists Egress (pod (pod_at lists p)) _) ∙ ap decider_allows (sent-same lists Four spot _ _ _ _ near far)
          ∙ decider_says lists Egress (pod (pod_at lists q)) _

  -- and so both have the same rows
  pub workload-rows : rows_of (side_of lists p direction) ≡ rows_of (side_of lists q direction)
  workload-rows = rows-same (side_of lists p direction) (side_of lists q direction) workload-mentions workload-exposes
