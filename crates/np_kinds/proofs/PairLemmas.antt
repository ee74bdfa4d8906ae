-- What passes between workloads is what passes between their pods. For KindNumbers, ReachLemmas and 2 more.
use Rattle.std.proofs.Common.{◌≡◌, ◌≢◌, ◌<◌, ℕ, List, [], ◌∷◌, Bool, true, false, Option, Some, None, Contains, length, slice_get, slice_index, if◌then◌else◌, refl, sym, ap, ◌∙◌, inl, inr}
use Rattle.std.specs.Option.{option_map_or}
use Rattle.std.specs.Prelude.{IsSomeAnd}
use Rattle.np_base.proofs.Lists.{slice_get-some}
use Rattle.np_kinds.specs.Prelude.{AreOneKind, Direction, Egress, EstateLists, Family, Ingress, Pod, PortSpot, address_allows, address_numbered, between_pods, destination_pod, is_alone, pair_allows, source_pod, with_address}
use Rattle.np_classes.specs.Classes.{class_of}
use Rattle.np_model.specs.Prelude.{IsLawful}
use Rattle.np_fold.proofs.NamespaceLemmas.{labels_agree}
use Rattle.np_fold.proofs.WorkloadLemmas.{first-is, number-in_workloads, one_kind, one_workload, workloads-count}
use Rattle.np_fold.specs.Prelude.{Folding, IsSameKind, first_pod, folding_of, kinds_alike, members_of, workload_count, workload_number, workloads_of}
use Rattle.np_kinds.proofs.KindVerdicts.{SameKindEnd-ends, packet-same}
use Rattle.np_rules.specs.Prelude.{ModelEnd, address, no_pod, pod, pod_at, pod_end}
use Rattle.np_kinds.proofs.MemberLemmas.{destination-member, member-number, members-some, members-within, not-alone, own-member, source-member}

-- ---- pods of one kind

-- pods of one kind are ends of one kind
pub one_kind-by : (lists : EstateLists) (i j : ℕ) (a b : Pod) → IsLawful lists → slice_get lists.pods i ≡ Some a → slice_get lists.pods j ≡ Some b → IsSameKind lists a b →
    AreOneKind lists (pod (pod_at lists i)) (pod (pod_at lists j))
one_kind-by lists i j a b lawful is is' kind =
    inl (record {
      first = a;
      second = b;
      one_is = ap (λ (found : Option Pod). pod (option_map_or pod_end found no_pod)) is;
      other_is = ap (λ (found : Option Pod). pod (option_map_or pod_end found no_pod)) is';
      kind = kind;
      namespace = labels_agree lists i j a b lawful is is' kind.namespace;
    })

-- there is a pod at each place
pub pod_there : (lists : EstateLists) (place : ℕ) → place < length lists.pods → (a : Pod) × (slice_get lists.pods place ≡ Some a)
pod_there lists place within = slice_get-some lists.pods place within

-- the pods of a workload are of one kind
pub one_kind-members : (lists : EstateLists) (p q : ℕ) → IsLawful lists → p < length lists.pods → q < length lists.pods → workload_number lists p ≡ workload_number lists q →
    AreOneKind lists (pod (pod_at lists p)) (pod (pod_at lists q))
one_kind-members lists p q lawful p_in q_in same =
    let a = pod_there lists p p_in in
    let b = pod_there lists q q_in in
    one_kind-by lists p q a.0 b.0 lawful a.1 b.1 ((one_workload lists p q a.0 b.0 a.1 b.1).0 same).kind

-- ---- packets

-- the same passes between pods of the same kinds
between-same : (lists : EstateLists) (p p' q q' : ℕ) (family : Family) (spot : PortSpot) → AreOneKind lists (pod (pod_at lists p)) (pod (pod_at lists p')) →
    AreOneKind lists (pod (pod_at lists q)) (pod (pod_at lists q')) → between_pods lists p q family spot ≡ between_pods lists p' q' family spot
between-same lists p p' q q' family spot first second =
    packet-same lists family spot (pod (pod_at lists p)) (pod (pod_at lists p')) (pod (pod_at lists q)) (pod (pod_at lists q')) (SameKindEnd-ends lists _ _ first) (SameKindEnd-ends lists _ _ second)

-- and between such a pod and an address
pub with_address-same : (lists : EstateLists) (direction : Direction) (near near' : ModelEnd) (family : Family) (number : ℕ) (spot : PortSpot) → AreOneKind lists near near' →
    with_address lists direction near family number spot ≡ with_address lists direction near' family number spot
with_address-same lists Ingress near near' family number spot same =
    packet-same lists family spot (address (address_numbered family number)) (address (address_numbered family number)) near near' (SameKindEnd-ends lists _ _ (inr refl)) (SameKindEnd-ends lists _ _ same)
with_address-same lists Egress near near' family number spot same =
    packet-same lists family spot near near' (address (address_numbered family number)) (address (address_numbered family number)) (SameKindEnd-ends lists _ _ same) (SameKindEnd-ends lists _ _ (inr refl))

-- what passes between workloads that are not one pod alone
pub pair_allows-between : (lists : EstateLists) (folding : Folding) (source destination : ℕ) (family : Family) (spot : PortSpot) → is_alone folding source destination ≡ false →
    pair_allows lists folding source destination family spot ≡ between_pods lists (source_pod folding source) (destination_pod folding source destination) family spot
unfolding pair_allows
pair_allows-between lists folding source destination family spot alone = rw alone refl

-- ---- workloads and their pods

-- Any two different pods of two workloads stand for them.
pub between-members : (lists : EstateLists) (source destination p q : ℕ) (family : Family) (spot : PortSpot) → IsLawful lists → source < length (folding_of lists).workloads →
    destination < length (folding_of lists).workloads → Contains (members_of (folding_of lists) source) p → Contains (members_of (folding_of lists) destination) q → p ≢ q →
    between_pods lists p q family spot ≡ pair_allows lists (folding_of lists) source destination family spot
between-members lists source destination p q family spot lawful source_in destination_in p_has q_has differ =
    let folding = folding_of lists in
    let alone = not-alone folding source destination p q p_has q_has differ in
    let near_has = source-member folding source (members-some lists folding source refl source_in) in
    let far_has = destination-member folding source destination (members-some lists folding destination refl destination_in) alone in
    let p_in = members-within lists folding source p refl source_in p_has in
    let q_in = members-within lists folding destination q refl destination_in q_has in
    let near_in = members-within lists folding source (source_pod folding source) refl source_in near_has in
    let far_in = members-within lists folding destination (destination_pod folding source destination) refl destination_in far_has in
    between-same lists p (source_pod folding source) q (destination_pod folding source destination) family spot
    (one_kind-members lists p (source_pod folding source) lawful p_in near_in (member-number lists source p p_in p_has ∙ sym (member-number lists source (source_pod folding source) near_in near_has)))
    (one_kind-members lists q (destination_pod folding source destination) lawful q_in far_in
    (member-number lists destination q q_in q_has ∙ sym (member-number lists destination (destination_pod folding source destination) far_in far_has)))
    ∙ sym (pair_allows-between lists folding source destination family spot alone)

-- ---- the set of a pair

-- a place that is there is the one that is told
some_far : (alone : Bool) (far place : ℕ) → Some far ≡ (if alone then None else Some place) → (alone ≡ false) × (far ≡ place)
some_far true far place is = absurd (cc)
some_far false far place is = (refl, cc)

-- the pod that stands for the destination, where there is one
pub far_is : (folding : Folding) (source destination far : ℕ) → Some far ≡ (if is_alone folding source destination then None else Some (destination_pod folding source destination)) →
    (is_alone folding source destination ≡ false) × (far ≡ destination_pod folding source destination)
far_is folding source destination far is = some_far (is_alone folding source destination) far (destination_pod folding source destination) is

-- it is one of the estate
pub far-within : (lists : EstateLists) (folding : Folding) (source destination far : ℕ) → folding ≡ folding_of lists → destination < length folding.workloads →
    Some far ≡ (if is_alone folding source destination then None else Some (destination_pod folding source destination)) → far < length lists.pods
far-within lists folding source destination far folded within is =
    let both = far_is folding source destination far is in
    rw both.1 (members-within lists folding destination (destination_pod folding source destination) folded within
    (destination-member folding source destination (members-some lists folding destination folded within) both.0))

-- no ports pass where a workload of one pod meets itself
pub pair_allows-alone : (lists : EstateLists) (folding : Folding) (source destination : ℕ) (family : Family) (spot : PortSpot) → is_alone folding source destination ≡ true →
    pair_allows lists folding source destination family spot ≡ false
unfolding pair_allows
pair_allows-alone lists folding source destination family spot alone = rw alone refl

-- ---- numbers of workloads

-- the number of a pod's workload is one of the folding
pub number-within : (lists : EstateLists) (place : ℕ) → place < length lists.pods → workload_number lists place < length (folding_of lists).workloads
unfolding folding_of
number-within lists place within = number-in_workloads lists place within

-- the numbers below the count are those of workloads
pub in_workloads : (lists : EstateLists) (number : ℕ) → number < workload_count lists → number < length (workloads_of lists)
in_workloads lists number within = rw (workloads-count lists) within

-- also in the folding
pub in_folding : (lists : EstateLists) (number : ℕ) → number < workload_count lists → number < length (folding_of lists).workloads
unfolding folding_of
in_folding lists number within = in_workloads lists number within

-- the pod that stands for a workload is one of the estate
pub source-within : (lists : EstateLists) (number : ℕ) → number < workload_count lists → source_pod (folding_of lists) number < length lists.pods
source-within lists number within =
    let folding = folding_of lists in
    let here = in_folding lists number within in
    members-within lists folding number (source_pod folding number) refl here (source-member folding number (members-some lists folding number refl here))

-- ---- laws

-- folding loses no verdict between pods
pub between_pods-pair_allows : (lists : EstateLists) (p q : ℕ) (family : Family) (spot : PortSpot) → IsLawful lists → p < length lists.pods → q < length lists.pods → p ≢ q →
    between_pods lists p q family spot ≡ pair_allows lists (folding_of lists) (workload_number lists p) (workload_number lists q) family spot
between_pods-pair_allows lists p q family spot lawful p_in q_in differ =
    between-members lists (workload_number lists p) (workload_number lists q) p q family spot lawful (number-within lists p p_in) (number-within lists q q_in) (own-member lists p p_in)
    (own-member lists q q_in) differ

-- nor between pods and addresses
pub with_address-address_allows : (lists : EstateLists) (p : ℕ) (direction : Direction) (family : Family) (number : ℕ) (spot : PortSpot) → IsLawful lists → p < length lists.pods →
    with_address lists direction (pod (pod_at lists p)) family number spot ≡ address_allows lists (folding_of lists) (workload_number lists p) direction family number spot
unfolding address_allows
with_address-address_allows lists p direction family number spot lawful p_in =
    let folding = folding_of lists in
    let near = source_pod folding (workload_number lists p) in
    let within = number-within lists p p_in in
    let near_has = source-member folding (workload_number lists p) (members-some lists folding (workload_number lists p) refl within) in
    let near_in = members-within lists folding (workload_number lists p) near refl within near_has in
    with_address-same lists direction (pod (pod_at lists p)) (pod (pod_at lists near)) family number spot
    (one_kind-members lists p near lawful p_in near_in (sym (member-number lists (workload_number lists p) near near_in near_has)))

-- ---- kinds

-- the first pod of a workload is the one that stands for it
pub first_there : (members : List ℕ) (pods : List Pod) (found : Option Pod) → IsSomeAnd (slice_get members 0) (λ first. slice_get pods first ≡ found) → slice_get pods (slice_index members 0) ≡ found
first_there [] pods found some = absurd some
first_there (first ∷ members) pods found some = some

-- the first pods of workloads of one kind are of one kind
pub one_kind-sources : (lists : EstateLists) (a a' : ℕ) → IsLawful lists → a < workload_count lists → a' < workload_count lists →
    class_of (kinds_alike lists) (workload_count lists) a ≡ class_of (kinds_alike lists) (workload_count lists) a' →
    AreOneKind lists (pod (pod_at lists (source_pod (folding_of lists) a))) (pod (pod_at lists (source_pod (folding_of lists) a')))
one_kind-sources lists a a' lawful within within' same =
    let folding = folding_of lists in
    let first = first_there (members_of folding a) lists.pods (first_pod lists a) (first-is lists a (in_workloads lists a within)) in
    let first' = first_there (members_of folding a') lists.pods (first_pod lists a') (first-is lists a' (in_workloads lists a' within')) in
    let x = pod_there lists (source_pod folding a) (source-within lists a within) in
    let x' = pod_there lists (source_pod folding a') (source-within lists a' within') in
    one_kind-by lists (source_pod folding a) (source_pod folding a') x.0 x'.0 lawful x.1 x'.1 ((one_kind lists a a' x.0 x'.0 (sym first ∙ x.1) (sym first' ∙ x'.1)).0 same)

-- the pod that stands for the destination is of the kind of the first
one_kind-destination : (lists : EstateLists) (a b : ℕ) → IsLawful lists → b < length (folding_of lists).workloads → is_alone (folding_of lists) a b ≡ false →
    AreOneKind lists (pod (pod_at lists (destination_pod (folding_of lists) a b))) (pod (pod_at lists (source_pod (folding_of lists) b)))
one_kind-destination lists a b lawful here alone =
    let folding = folding_of lists in
    let some = members-some lists folding b refl here in
    let far_has = destination-member folding a b some alone in
    let near_has = source-member folding b some in
    let far_in = members-within lists folding b (destination_pod folding a b) refl here far_has in
    let near_in = members-within lists folding b (source_pod folding b) refl here near_has in
    one_kind-members lists (destination_pod folding a b) (source_pod folding b) lawful far_in near_in
    (member-number lists b (destination_pod folding a b) far_in far_has ∙ sym (member-number lists b (source_pod folding b) near_in near_has))

-- what passes between workloads passes between the first pods of workloads of their kinds
pub pair_allows-firsts : (lists : EstateLists) (a a' b b' : ℕ) (family : Family) (spot : PortSpot) → IsLawful lists → a < workload_count lists → a' < workload_count lists → b < workload_count lists →
    b' < workload_count lists → class_of (kinds_alike lists) (workload_count lists) a ≡ class_of (kinds_alike lists) (workload_count lists) a' →
    class_of (kinds_alike lists) (workload_count lists) b ≡ class_of (kinds_alike lists) (workload_count lists) b' → is_alone (folding_of lists) a b ≡ false →
    pair_allows lists (folding_of lists) a b family spot ≡ between_pods lists (source_pod (folding_of lists) a') (source_pod (folding_of lists) b') family spot
pair_allows-firsts lists a a' b b' family spot lawful a_in a'_in b_in b'_in sources destinations alone =
    let folding = folding_of lists in
    pair_allows-between lists folding a b family spot alone
    ∙ between-same lists (source_pod folding a) (source_pod folding a) (destination_pod folding a b) (source_pod folding b) family spot (inr refl)
    (one_kind-destination lists a b lawful (in_folding lists b b_in) alone)
    ∙ between-same lists (source_pod folding a) (source_pod folding a') (source_pod folding b) (source_pod folding b') family spot (one_kind-sources lists a a' lawful a_in a'_in sources)
    (one_kind-sources lists b b' lawful b_in b'_in destinations)

-- and so it depends on their kinds
pub pair_allows-kinds : (lists : EstateLists) (a a' b b' : ℕ) (family : Family) (spot : PortSpot) → IsLawful lists → a < workload_count lists → a' < workload_count lists → b < workload_count lists →
    b' < workload_count lists → class_of (kinds_alike lists) (workload_count lists) a ≡ class_of (kinds_alike lists) (workload_count lists) a' →
    class_of (kinds_alike lists) (workload_count lists) b ≡ class_of (kinds_alike lists) (workload_count lists) b' → is_alone (folding_of lists) a b ≡ false →
    is_alone (folding_of lists) a' b' ≡ false → pair_allows lists (folding_of lists) a b family spot ≡ pair_allows lists (folding_of lists) a' b' family spot
pair_allows-kinds lists a a' b b' family spot lawful a_in a'_in b_in b'_in sources destinations alone alone' =
    pair_allows-firsts lists a a' b b' family spot lawful a_in a'_in b_in b'_in sources destinations alone
    ∙ sym (pair_allows-firsts lists a' a' b' b' family spot lawful a'_in a'_in b'_in b'_in refl refl alone')
