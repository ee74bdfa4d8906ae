-- The side of the pod that stands for a workload's kind gives what that of the workload's own pod does. For crates above.
use Rattle.std.proofs.Common.{get_or, ◌≡◌, ◌<◌, ℕ, List, false, Some, slice_get, slice_index, sym, ap, subst, ◌∙◌}
use Rattle.std.proofs.lemmas.Option.{same_Some, slice_get-get_or, slice_get_within}
use Rattle.np_kinds.specs.Prelude.{Direction, Egress, EstateLists, Family, Ingress, IsWorkload, PortSpot, between_pods, first_alike, first_side, is_alone, kind_side, pair_allows, source_pod, with_address}
use Rattle.np_classes.specs.Classes.{class_of}
use Rattle.np_fold.specs.Prelude.{folding_of, kinds_alike, workload_count}
use Rattle.np_kinds.proofs.KindNumbers.{first-of_kind, kinds-by}
use Rattle.np_kinds.proofs.KindVerdicts.{SameKindEnd-ends, end_rule_count-same}
use Rattle.np_kinds.proofs.PairLemmas.{one_kind-sources, pair_allows-firsts, with_address-same}
use Rattle.np_model.specs.Prelude.{IsLawful}
use Rattle.np_rules.specs.Prelude.{near_pod, pod, pod_at, side_rule_count}

index-of : (xs : List ℕ) (i x : ℕ) → slice_get xs i ≡ Some x → slice_index xs i ≡ x
index-of xs i x is = sym (same_Some x (get_or xs i 0) (sym is ∙ slice_get-get_or xs i 0 (slice_get_within xs i x is)))

-- the first workload of a workload's kind is one of the kind
pub first_alike-is : (lists : EstateLists) (workload : ℕ) → IsWorkload lists workload →
    (first_alike lists workload < workload_count lists) × (class_of (kinds_alike lists) (workload_count lists) workload ≡ class_of (kinds_alike lists) (workload_count lists)
    (first_alike lists workload))
first_alike-is lists workload within =
    let there = first-of_kind lists workload within in
    let is = sym (index-of (folding_of lists).first_of_kinds (slice_index (folding_of lists).kinds workload) there.0 there.3) in
    (subst (λ (n : ℕ). n < workload_count lists) is there.1, there.2 ∙ ap (class_of (kinds_alike lists) (workload_count lists)) is)

-- as many rules speak of its first pod
pub kind_side-count : (lists : EstateLists) (direction : Direction) (workload : ℕ) → IsLawful lists → IsWorkload lists workload →
    side_rule_count (kind_side lists direction workload) ≡ side_rule_count (first_side lists direction workload)
kind_side-count lists direction workload lawful within =
    let first = first_alike-is lists workload within in
    end_rule_count-same lists direction (pod (pod_at lists (source_pod (folding_of lists) (first_alike lists workload)))) (pod (pod_at lists (source_pod (folding_of lists) workload)))
    (SameKindEnd-ends lists _ _ (one_kind-sources lists (first_alike lists workload) workload lawful first.0 (kinds-by lists workload within).0 (sym first.1)))

-- the same passes with each address
pub kind_side-address : (lists : EstateLists) (direction : Direction) (workload : ℕ) (family : Family) (number : ℕ) (spot : PortSpot) → IsLawful lists → IsWorkload lists workload →
    with_address lists direction (pod (near_pod (kind_side lists direction workload))) family number spot ≡
    with_address lists direction (pod (near_pod (first_side lists direction workload))) family number spot
kind_side-address lists direction workload family number spot lawful within =
    let first = first_alike-is lists workload within in
    with_address-same lists direction (pod (near_pod (kind_side lists direction workload))) (pod (near_pod (first_side lists direction workload))) family number spot
    (one_kind-sources lists (first_alike lists workload) workload lawful first.0 (kinds-by lists workload within).0 (sym first.1))

-- and between two of them what passes between two workloads
pub kind_sides-pass : (lists : EstateLists) (source destination : ℕ) (family : Family) (spot : PortSpot) → IsLawful lists → IsWorkload lists source → IsWorkload lists destination →
    is_alone (folding_of lists) source destination ≡ false → pair_allows lists (folding_of lists) source destination family spot ≡
    between_pods lists (kind_side lists Egress source).pod (kind_side lists Ingress destination).pod family spot
kind_sides-pass lists source destination family spot lawful source_in destination_in alone =
    let a = first_alike-is lists source source_in in
    let b = first_alike-is lists destination destination_in in
    pair_allows-firsts lists source (first_alike lists source) destination (first_alike lists destination) family spot lawful (kinds-by lists source source_in).0 a.0
    (kinds-by lists destination destination_in).0 b.0 a.1 b.1 alone
