-- Pods that stand for their kinds. For `SameKinds::left`, `is_same_before` and 2 more.
use Rattle.std.proofs.Common.{◌≡◌, ℕ, ◌<◌, List, false, length, get_or, slice_index, slice_get, Some, refl, sym, ap, ◌∙◌, subst, arith, inr}
use Rattle.std.proofs.lemmas.List.FromFn.{get_or-map-range_with_len}
use Rattle.std.proofs.lemmas.Option.{get_or_from_slice_get, slice_get-get_or, slice_get_within}
use Rattle.np_unused.specs.Prelude.{AreKindPods, Direction, Egress, EstateLists, Family, Ingress, KindPod, PortSpot, pod_kind}
use Rattle.np_classes.proofs.Relations.{class_of_first, first_of, same_class}
use Rattle.np_classes.specs.Classes.{class_of}
use Rattle.np_model.specs.Prelude.{IsLawful}
use Rattle.np_fold.proofs.AlikeLemmas.{kinds-are}
use Rattle.np_fold.proofs.WorkloadLemmas.{one_workload}
use Rattle.np_fold.specs.Prelude.{folding_of, kinds_alike, workload_count, workload_number}
use Rattle.np_rules.specs.Prelude.{ModelEnd, contact, decider, pod, pod_at}
use Rattle.np_kinds.proofs.KindNumbers.{first_pod-there, firsts-workloads, kinds-by}
use Rattle.np_kinds.proofs.KindVerdicts.{SameKindEnd-ends, got-same, sent-same}
use Rattle.np_kinds.proofs.MemberLemmas.{member-number, members-some, source-member}
use Rattle.np_kinds.proofs.PairLemmas.{number-within, one_kind-by, one_kind-sources, pod_there, source-within}
use Rattle.np_kinds.specs.Prelude.{AreOneKind, source_pod}

-- ---- pods that may stand for one another

-- what decides is the same with the one and with the other, at either end
pub record StandsFor (lists : EstateLists) (p q : ℕ) : Type 0 where
  pub near : (direction : Direction) (far : ModelEnd) (family : Family) (spot : PortSpot) →
      decider lists direction (pod (pod_at lists p)) (contact direction (pod (pod_at lists p)) far family spot) ≡ decider lists direction (pod (pod_at lists q))
      (contact direction (pod (pod_at lists q)) far family spot)
  pub far : (direction : Direction) (near_end : ModelEnd) (family : Family) (spot : PortSpot) →
      decider lists direction near_end (contact direction near_end (pod (pod_at lists p)) family spot) ≡ decider lists direction near_end
      (contact direction near_end (pod (pod_at lists q)) family spot)

of_one_kind : (lists : EstateLists) (p q : ℕ) → AreOneKind lists (pod (pod_at lists p)) (pod (pod_at lists q)) → StandsFor lists p q
of_one_kind lists p q kind = record { near = near_same; far = far_same }
  where
    near_same : (direction : Direction) (far : ModelEnd) (family : Family) (spot : PortSpot) →
        decider lists direction (pod (pod_at lists p)) (contact direction (pod (pod_at lists p)) far family spot) ≡ decider lists direction (pod (pod_at lists q))
        (contact direction (pod (pod_at lists q)) far family spot)
    near_same Egress far family spot = sent-same lists family spot (pod (pod_at lists p)) (pod (pod_at lists q)) far far (SameKindEnd-ends lists _ _ kind) (SameKindEnd-ends lists far far (inr refl))
    near_same Ingress far family spot = got-same lists family spot far far (pod (pod_at lists p)) (pod (pod_at lists q)) (SameKindEnd-ends lists far far (inr refl)) (SameKindEnd-ends lists _ _ kind)

    far_same : (direction : Direction) (near : ModelEnd) (family : Family) (spot : PortSpot) →
        decider lists direction near (contact direction near (pod (pod_at lists p)) family spot) ≡ decider lists direction near (contact direction near (pod (pod_at lists q)) family spot)
    far_same Egress near family spot = sent-same lists family spot near near (pod (pod_at lists p)) (pod (pod_at lists q)) (SameKindEnd-ends lists near near (inr refl))
        (SameKindEnd-ends lists _ _ kind)
    far_same Ingress near family spot = got-same lists family spot (pod (pod_at lists p)) (pod (pod_at lists q)) near near (SameKindEnd-ends lists _ _ kind)
        (SameKindEnd-ends lists near near (inr refl))

onward : (lists : EstateLists) (p q r : ℕ) → StandsFor lists p q → StandsFor lists q r → StandsFor lists p r
onward lists p q r one other = record {
  near = λ direction far family spot. one.near direction far family spot ∙ other.near direction far family spot;
  far = λ direction near family spot. one.far direction near family spot ∙ other.far direction near family spot;
}

-- ---- kinds of pods

pub number_is : (lists : EstateLists) (p : ℕ) → p < length lists.pods → slice_index (folding_of lists).numbers p ≡ workload_number lists p
unfolding folding_of
number_is lists p within = get_or-map-range_with_len (workload_number lists) 0 (length lists.pods) p p 0 within (omega arith)

-- the first workload of a kind, by a workload of it
kind_first : (lists : EstateLists) (w : ℕ) → w < workload_count lists
    → (first : ℕ) × (slice_get (folding_of lists).first_of_kinds (class_of (kinds_alike lists) (workload_count lists) w) ≡ Some first) × (first < workload_count lists) ×
    (class_of (kinds_alike lists) (workload_count lists) w ≡ class_of (kinds_alike lists) (workload_count lists) first)
unfolding folding_of
kind_first lists w within =
    let lawful = kinds-are lists (workload_count lists) (first_pod-there lists) in
    let there = first_of (kinds_alike lists) (workload_count lists) lawful w within in
    (there.0, there.1, there.2, sym (same_class (kinds_alike lists) (workload_count lists) lawful there.0 w there.2 within there.3))

kind_of_first : (lists : EstateLists) (kind first : ℕ) → slice_get (folding_of lists).first_of_kinds kind ≡ Some first → class_of (kinds_alike lists) (workload_count lists) first ≡ kind
unfolding folding_of
kind_of_first lists kind first is = class_of_first (kinds_alike lists) (workload_count lists) (kinds-are lists (workload_count lists) (first_pod-there lists)) kind first is

-- the kind of a pod is that of its workload
kind_by_number : (lists : EstateLists) (p : ℕ) → p < length lists.pods →
    (workload_number lists p < workload_count lists) × (pod_kind lists p ≡ class_of (kinds_alike lists) (workload_count lists) (workload_number lists p))
kind_by_number lists p within =
    let kind = kinds-by lists (workload_number lists p) (number-within lists p within) in
    (kind.0, ap (slice_index (folding_of lists).kinds) (number_is lists p within) ∙ kind.2)

-- each pod is of one of the kinds
pub kind_within : (lists : EstateLists) (p : ℕ) → p < length lists.pods → pod_kind lists p < length (folding_of lists).first_of_kinds
kind_within lists p within =
    let by = kind_by_number lists p within in
    let first = kind_first lists (workload_number lists p) by.0 in
    slice_get_within (folding_of lists).first_of_kinds (pod_kind lists p) first.0 (ap (slice_get (folding_of lists).first_of_kinds) by.1 ∙ first.1)

-- a pod and the first of its workload
first_stands : (lists : EstateLists) (p : ℕ) → IsLawful lists → p < length lists.pods → StandsFor lists p (source_pod (folding_of lists) (workload_number lists p))
first_stands lists p lawful within =
    let number = workload_number lists p in
    let here = number-within lists p within in
    let near = source_pod (folding_of lists) number in
    let near_in = source-within lists number (kind_by_number lists p within).0 in
    let near_has = source-member (folding_of lists) number (members-some lists (folding_of lists) number refl here) in
    let a = pod_there lists p within in
    let b = pod_there lists near near_in in
    of_one_kind lists p near (one_kind-by lists p near a.0 b.0 lawful a.1 b.1 ((one_workload lists p near a.0 b.0 a.1 b.1).0 (sym (member-number lists number near near_in near_has))).kind)

module _ (lists : EstateLists) (lawful : IsLawful lists) (kinds : List KindPod) (are : AreKindPods lists kinds) where
  -- the pod of its kind stands for each pod
  pub kind_pod : (p : ℕ) → p < length lists.pods → (one : KindPod) × (slice_get kinds (pod_kind lists p) ≡ Some one) × StandsFor lists p one.pod
  kind_pod p within =
      let number = workload_number lists p in
      let kind = pod_kind lists p in
      let by = kind_by_number lists p within in
      let first = kind_first lists number by.0 in
      let at : slice_get (folding_of lists).first_of_kinds kind ≡ Some first.0 = ap (slice_get (folding_of lists).first_of_kinds) by.1 ∙ first.1 in
      let inside : kind < length kinds = omega (arith, are.count, kind_within lists p within) in
      let nothing : KindPod = record { pod = 0; is_shared = false } in
      let one = get_or kinds kind nothing in
      let there : slice_get kinds kind ≡ Some one = slice_get-get_or kinds kind nothing inside in
      let is = are.each kind one there in
      let pod_is : one.pod ≡ source_pod (folding_of lists) first.0 = is.pod ∙ ap (source_pod (folding_of lists)) (get_or_from_slice_get (folding_of lists).first_of_kinds kind first.0 0 at) in
      let stands = onward lists p (source_pod (folding_of lists) number) (source_pod (folding_of lists) first.0) (first_stands lists p lawful within)
      (of_one_kind lists (source_pod (folding_of lists) number) (source_pod (folding_of lists) first.0) (one_kind-sources lists number first.0 lawful by.0 first.2 first.3)) in
      (one, there, subst (StandsFor lists p) (sym pod_is) stands)

  -- it is a pod of the estate, and of its kind
  pub own_kind : (kind : ℕ) (one : KindPod) → slice_get kinds kind ≡ Some one → (one.pod < length lists.pods) × (pod_kind lists one.pod ≡ kind)
  own_kind kind one at =
      let firsts = (folding_of lists).first_of_kinds in
      let inside : kind < length firsts = omega (arith, are.count, slice_get_within kinds kind one at) in
      let first = slice_index firsts kind in
      let there : slice_get firsts kind ≡ Some first = slice_get-get_or firsts kind 0 inside in
      let workload : first < length (folding_of lists).workloads = firsts-workloads lists kind 0 inside in
      let low = (kinds-by lists first workload).0 in
      let near = source_pod (folding_of lists) first in
      let near_in = source-within lists first low in
      let near_has = source-member (folding_of lists) first (members-some lists (folding_of lists) first refl workload) in
      let own : workload_number lists near ≡ first = member-number lists first near near_in near_has in
      let kind_is : pod_kind lists near ≡ kind = (kind_by_number lists near near_in).1 ∙ ap (class_of (kinds_alike lists) (workload_count lists)) own ∙ kind_of_first lists kind first there in
      let pod_is : one.pod ≡ near = (are.each kind one at).pod in
      (subst (λ (n : ℕ). n < length lists.pods) (sym pod_is) near_in, ap (pod_kind lists) pod_is ∙ kind_is)
