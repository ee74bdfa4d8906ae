-- The numbers of kinds: each workload has one, and each kind has a first workload. For `KindReach::is_silent`, `Sides::at` and 5 more.
use Rattle.std.proofs.Common.{◌≡◌, ◌<◌, ℕ, Some, length, slice_index, arith, sym, ap, subst, ◌∙◌, slice_get}
use Rattle.std.proofs.lemmas.List.{length-map}
use Rattle.std.proofs.lemmas.List.FromFn.{get_or-map-range_with_len, length-range_with_len}
use Rattle.np_classes.proofs.Relations.{class_within, first_of, firsts_within, same_class}
use Rattle.np_classes.specs.Classes.{class_of, firsts}
use Rattle.np_kinds.specs.Prelude.{EstateLists, IsWorkload, Pod, source_pod}
use Rattle.np_fold.proofs.AlikeLemmas.{kinds-are}
use Rattle.np_fold.proofs.WorkloadLemmas.{first-is, workloads-count}
use Rattle.np_fold.specs.Prelude.{Folding, first_pod, folding_of, kinds_alike, members_of, workload_count}
use Rattle.np_kinds.proofs.PairLemmas.{first_there, in_folding, in_workloads, pod_there, source-within}
use Rattle.std.specs.Prelude.{All}
use Rattle.std.proofs.lemmas.List.Elements.{All-weaker}

-- the number of a workload's kind is that of its class
pub kinds-by : (lists : EstateLists) (number : ℕ) → number < length (folding_of lists).workloads →
    (number < workload_count lists) × (number < length (folding_of lists).kinds) × (slice_index (folding_of lists).kinds number ≡ class_of (kinds_alike lists) (workload_count lists) number)
unfolding folding_of
kinds-by lists number within =
    let low : number < workload_count lists = subst (λ (n : ℕ). number < n) (workloads-count lists) within in
    let kind : ℕ → ℕ = class_of (kinds_alike lists) (workload_count lists) in
    let all : length (folding_of lists).kinds ≡ workload_count lists = length-map _ kind ∙ length-range_with_len 0 (workload_count lists) in
    (low, subst (λ (n : ℕ). number < n) (sym all) low, get_or-map-range_with_len kind 0 (workload_count lists) number number 0 low (omega arith))

-- each workload has a first pod
pub first_pod-there : (lists : EstateLists) (number : ℕ) → number < workload_count lists → (pod : Pod) × (first_pod lists number ≡ Some pod)
first_pod-there lists number within =
    let folding = folding_of lists in
    let first = first_there (members_of folding number) lists.pods (first_pod lists number) (first-is lists number (in_workloads lists number within)) in
    let there = pod_there lists (source_pod folding number) (source-within lists number within) in
    (there.0, sym first ∙ there.1)

kind_count-within : (lists : EstateLists) (number : ℕ) → number < workload_count lists → class_of (kinds_alike lists) (workload_count lists) number < (folding_of lists).kind_count
unfolding folding_of
kind_count-within lists number within = class_within (kinds_alike lists) (workload_count lists) (kinds-are lists (workload_count lists) (first_pod-there lists)) number within

-- each workload has a kind
pub kind-there : (lists : EstateLists) (folding : Folding) (number : ℕ) → folding ≡ folding_of lists → number < length folding.workloads → number < length folding.kinds
kind-there lists folding number folded =
    let of : Folding → Type 0 = λ f. number < length f.workloads → number < length f.kinds in
    subst of (sym folded) (λ within. (kinds-by lists number within).1)

-- which is one of the kinds
pub kind-within : (lists : EstateLists) (folding : Folding) (number : ℕ) → folding ≡ folding_of lists → number < length folding.workloads → slice_index folding.kinds number < folding.kind_count
kind-within lists folding number folded =
    let of : Folding → Type 0 = λ f. number < length f.workloads → slice_index f.kinds number < f.kind_count in
    subst of (sym folded) (λ within.
    let kind = kinds-by lists number within in
    subst (λ (n : ℕ). n < (folding_of lists).kind_count) (sym kind.2) (kind_count-within lists number kind.0))

-- each workload has the kind of the first workload of its kind
pub first-of_kind : (lists : EstateLists) (workload : ℕ) → IsWorkload lists workload
    → (first : ℕ) × (first < workload_count lists) × (class_of (kinds_alike lists) (workload_count lists) workload ≡ class_of (kinds_alike lists) (workload_count lists) first) ×
    (slice_get (folding_of lists).first_of_kinds (slice_index (folding_of lists).kinds workload) ≡ Some first)
unfolding folding_of
first-of_kind lists workload within =
    let kind = kinds-by lists workload within in
    let lawful = kinds-are lists (workload_count lists) (first_pod-there lists) in
    let there = first_of (kinds_alike lists) (workload_count lists) lawful workload kind.0 in (
      there.0,
      there.2,
      sym (same_class (kinds_alike lists) (workload_count lists) lawful there.0 workload there.2 kind.0 there.3),
      ap (λ (n : ℕ). slice_get (firsts (kinds_alike lists) (workload_count lists)) n) kind.2 ∙ there.1,
    )

-- the first workloads of kinds are workloads
pub firsts-workloads : (lists : EstateLists) → All (IsWorkload lists) (folding_of lists).first_of_kinds
unfolding folding_of
firsts-workloads lists =
    All-weaker (λ first. first < workload_count lists) (IsWorkload lists) (λ first within. in_folding lists first within) (firsts (kinds_alike lists) (workload_count lists))
    (firsts_within (kinds_alike lists) (workload_count lists))
