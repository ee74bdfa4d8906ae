-- The pod of one more kind. For `first_pods`, `kind_of_pod` and `note_others`.
use Rattle.std.proofs.Common.{◌≡◌, ◌≢◌, ℕ, ◌+◌, ◌<◌, ◌≤◌, List, [], ◌∷◌, ◌++◌, length, get_or, slice_get, slice_index, set, true, Some, refl, sym, ap, ◌∙◌, subst, inl, inr, arith}
use Rattle.std.proofs.lemmas.Bool.{cases_eq, cases_order, false≢true}
use Rattle.std.proofs.lemmas.List.{length-append, length-set}
use Rattle.std.proofs.lemmas.List.FromFn.{length-map-range_with_len}
use Rattle.std.proofs.lemmas.Option.{none-some, same_Some, slice_get_past, slice_get_within}
use Rattle.np_base.proofs.Lists.{slice_get-push_other, slice_get-push_same}
use Rattle.np_unused.specs.Prelude.{AreKindPods, AreKindPodsOf, EstateLists, IsKindPodOf, KindPod, pod_kind}
use Rattle.np_fold.specs.Prelude.{folding_of, workload_number}
use Rattle.np_unused.proofs.FlagLemmas.{get-set_other, get-set_same}
use Rattle.np_kinds.proofs.PairLemmas.{number-within}
use Rattle.np_unused.proofs.KindPodLemmas.{kind_within, number_is}
use Rattle.np_kinds.proofs.KindNumbers.{firsts-workloads, kind-there}

-- ---- numbers and kinds of pods

numbers_count : (lists : EstateLists) → length (folding_of lists).numbers ≡ length lists.pods
unfolding folding_of
numbers_count lists = length-map-range_with_len (workload_number lists) 0 (length lists.pods)

pub number_there : (lists : EstateLists) (place : ℕ) → place < length lists.pods → place < length (folding_of lists).numbers
number_there lists place within = rw (numbers_count lists) within

pub kind_there : (lists : EstateLists) (place : ℕ) → place < length lists.pods → slice_index (folding_of lists).numbers place < length (folding_of lists).kinds
kind_there lists place within = rw (number_is lists place within) (kind-there lists (folding_of lists) (workload_number lists place) refl (number-within lists place within))

-- ---- one pod more is looked at

-- its kind has a pod
pub kind_in : (lists : EstateLists) (place kind : ℕ) (kinds : List KindPod) → place < length lists.pods → kind ≡ pod_kind lists place → AreKindPodsOf lists place kinds → kind < length kinds
kind_in lists place kind kinds within is are = omega (arith, is, are.count, kind_within lists place within)

module _ (lists : EstateLists) (place kind : ℕ) (kinds : List KindPod) (one : KindPod) (kind_is : kind ≡ pod_kind lists place) (at : slice_get kinds kind ≡ Some one)
    (are : AreKindPodsOf lists place kinds) where
  -- it is the pod of its kind
  pub own_seen : one.pod ≡ place → AreKindPodsOf lists (place + 1) kinds
  own_seen own = record {
    count = are.count;
    each = λ k other at_k.
        let is = are.each k other at_k in record {
          pod = is.pod;
          shared = is.shared;
          alone = λ alone p low of_kind. elim (cases_order p place) [
            | inl same ↦ same ∙ sym own ∙ ap (λ (o : KindPod). o.pod) (same_Some one other (sym at ∙ ap (slice_get kinds) (kind_is ∙ ap (pod_kind lists) (sym same) ∙ of_kind) ∙ at_k))
            | inr (inl before) ↦ is.alone alone p before of_kind
            | inr (inr after) ↦ absurd (omega arith)
          ];
        };
  }

  -- it is another one
  abbrev noted : KindPod
  noted = record { pod = one.pod; is_shared = true }

  noted_is : place < length lists.pods → one.pod ≢ place → IsKindPodOf lists (place + 1) kind noted
  noted_is within other_pod = record {
    pod = (are.each kind one at).pod;
    shared = λ shared. (place, within, sym kind_is, λ same. other_pod (sym same));
    alone = λ alone. absurd (false≢true (sym alone));
  }

  other_is : (k : ℕ) (other : KindPod) → k ≢ kind → slice_get kinds k ≡ Some other → IsKindPodOf lists (place + 1) k other
  other_is k other apart at_k =
      let is = are.each k other at_k in record {
        pod = is.pod;
        shared = is.shared;
        alone = λ alone p low of_kind. elim (cases_order p place) [
          | inl same ↦ absurd (apart (sym of_kind ∙ ap (pod_kind lists) same ∙ sym kind_is))
          | inr (inl before) ↦ is.alone alone p before of_kind
          | inr (inr after) ↦ absurd (omega arith)
        ];
      }

  pub other_seen : place < length lists.pods → one.pod ≢ place → AreKindPodsOf lists (place + 1) (set kinds kind (record { pod = one.pod; is_shared = true }))
  other_seen within other_pod = record {
    count = length-set kinds kind noted ∙ are.count;
    each = λ k other at_k. elim (cases_eq k kind) [
      | inl same ↦ subst (λ (n : ℕ). IsKindPodOf lists (place + 1) n other) (sym same)
          (subst (IsKindPodOf lists (place + 1) kind) (same_Some noted other
          (sym (get-set_same kinds kind noted (slice_get_within kinds kind one at)) ∙ ap (slice_get (set kinds kind noted)) (sym same) ∙ at_k)) (noted_is within other_pod))
      | inr apart ↦ other_is k other apart (sym (get-set_other kinds kind k noted apart) ∙ at_k)
    ];
  }

-- all pods were looked at
pub all_seen : (lists : EstateLists) (pods : ℕ) (kinds : List KindPod) → length lists.pods ≤ pods → AreKindPodsOf lists pods kinds → AreKindPods lists kinds
all_seen lists pods kinds past are = record {
  count = are.count;
  each = λ kind one at.
      let is = are.each kind one at in
      record { pod = is.pod; shared = is.shared; alone = λ alone p low. is.alone alone p (omega arith) };
}

-- ---- one kind more

pub first_workload : (lists : EstateLists) (firsts : List ℕ) (kind : ℕ) → firsts ≡ (folding_of lists).first_of_kinds → kind < length firsts →
    get_or firsts kind 0 < length (folding_of lists).workloads
first_workload lists firsts kind are within =
    subst (λ (all : List ℕ). get_or all kind 0 < length (folding_of lists).workloads) (sym are)
    (firsts-workloads lists kind 0 (subst (λ (all : List ℕ). kind < length all) are within))

pub each_more : (lists : EstateLists) (pods : ℕ) (kinds made : List KindPod) (one : KindPod) (kind : ℕ) → length kinds ≡ kind →
    ((k : ℕ) (other : KindPod) → slice_get kinds k ≡ Some other → IsKindPodOf lists pods k other) → IsKindPodOf lists pods kind one → made ≡ kinds ++ one ∷ [] → (k : ℕ) (other : KindPod) →
    slice_get made k ≡ Some other → IsKindPodOf lists pods k other
each_more lists pods kinds made one kind count each is pushed k other at =
    elim (cases_order k kind) [
      | inl equal ↦ subst (λ (n : ℕ). IsKindPodOf lists pods n other) (sym equal)
          (subst (IsKindPodOf lists pods kind) (same_Some one other (sym (slice_get-push_same kinds one) ∙ ap (slice_get (kinds ++ one ∷ [])) (count ∙ sym equal) ∙ here)) is)
      | inr (inl before) ↦ each k other (sym (slice_get-push_other kinds one k (omega arith)) ∙ here)
      | inr (inr after) ↦ absurd (none-some other (sym (slice_get_past (kinds ++ one ∷ []) k (omega (arith, length-append kinds (one ∷ [])))) ∙ here))
    ]
  where
    here : slice_get (kinds ++ one ∷ []) k ≡ Some other
    here = ap (λ (all : List KindPod). slice_get all k) (sym pushed) ∙ at

pub count_more : (kinds made : List KindPod) (one : KindPod) (kind : ℕ) → length kinds ≡ kind → made ≡ kinds ++ one ∷ [] → length made ≡ kind + 1
count_more kinds made one kind count pushed = ap length pushed ∙ omega (arith, length-append kinds (one ∷ []))
