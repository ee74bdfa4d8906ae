-- The names of workloads: no two are equal, and each has the name of a pod's owner in it. For EndTexts and RowTexts.
use Rattle.std.proofs.Common.{◌≡◌, ℕ, ◌<◌, ◌≤◌, List, [], ◌++◌, length, get_or, slice_get, All, Some, Less, sym, ap, subst, inl, inr, arith}
use Rattle.std.specs.Cmp.Lexicographic.{slice_cmp}
use Rattle.std.specs.List.Sorted.{IsStrictlySortedBy}
use Rattle.std.specs.Option.{option_map_or}
use Rattle.std.specs.Ordering.{nat_cmp}
use Rattle.std.proofs.lemmas.Bool.{cases_order}
use Rattle.std.proofs.lemmas.List.{length-map}
use Rattle.std.proofs.lemmas.List.Elements.{All-map, All-weaker}
use Rattle.std.proofs.lemmas.Map.Keys.{Less-from_sorted}
use Rattle.np_base.proofs.Lists.{slice_get-some}
use Rattle.np_base.proofs.Orders.{not-before}
use Rattle.np_classes.proofs.Relations.{firsts-le-count, firsts_within}
use Rattle.np_fold.specs.Prelude.{Workload, first_pods, folding_of, named_first_pods, owner_name, owner_name_at, owner_names, pods_alike, workload, workload_count, workloads_of}
use Rattle.np_fold.proofs.WorkloadLemmas.{workloads-by_name}
use Rattle.np_report.specs.Prelude.{names_of}
use Rattle.np_model.specs.Prelude.{IsFew}
use Rattle.np_meaning.specs.Prelude.{EstateLists, Pod}
use Rattle.np_names.specs.Names.{name_at, suffix, wish_at}
use Rattle.np_names.specs.declared.named.Named.{Named}
use Rattle.np_names.proofs.ThingLemmas.{All-all_by_name, IsThing}
use mathlib.Core.List.{map-map}

-- of texts that ascend strictly, one at an earlier place is another
earlier-apart : (texts : List (List ℕ)) (i j : ℕ) → IsStrictlySortedBy (slice_cmp nat_cmp) texts → i < j → j < length texts → get_or texts i [] ≡ get_or texts j [] → ⊥
earlier-apart texts i j ascend before within same =
    not-before (get_or texts j [])
    (subst (λ (text : List ℕ). slice_cmp nat_cmp text (get_or texts j []) ≡ Less) same (Less-from_sorted (slice_cmp nat_cmp) texts i j [] ascend before within))

ascending-apart : (texts : List (List ℕ)) (i j : ℕ) → IsStrictlySortedBy (slice_cmp nat_cmp) texts → i < length texts → j < length texts → get_or texts i [] ≡ get_or texts j [] → i ≡ j
ascending-apart texts i j ascend in_i in_j same =
    elim (cases_order i j) [
      | inl equal ↦ equal
      | inr apart ↦ elim apart [
        | inl before ↦ absurd (earlier-apart texts i j ascend before in_j same)
        | inr after ↦ absurd (earlier-apart texts j i ascend after in_i (sym same))
      ]
    ]

module _ (lists : EstateLists) where
  -- there are no more workloads than pods
  pub few-workloads : IsFew lists → workload_count lists ≤ 20000
  few-workloads few = let most = few.pods in let count = firsts-le-count (pods_alike lists) (length lists.pods) in omega (arith, most, count)

  pub name-within : (number : ℕ) → number < length (folding_of lists).workloads → number < length (names_of (folding_of lists))
  name-within number within = subst (λ (n : ℕ). number < n) (sym (length-map (folding_of lists).workloads (λ (one : Workload). one.name))) within

  pub one-name : IsFew lists → (m n : ℕ) → m < length (folding_of lists).workloads → n < length (folding_of lists).workloads
      → get_or (names_of (folding_of lists)) m [] ≡ get_or (names_of (folding_of lists)) n [] → m ≡ n
  unfolding folding_of
  one-name few m n in_m in_n same = ascending-apart (names_of (folding_of lists)) m n ascend (name-within m in_m) (name-within n in_n) same
    where
      ascend : IsStrictlySortedBy (slice_cmp nat_cmp) (names_of (folding_of lists))
      ascend = let count = few-workloads few in workloads-by_name lists (omega (arith, count))

  -- what holds of the names of owners, and what then holds of the names of workloads, where a number may follow
  module _ (P Q : List ℕ → Type 0) (owners : (place : ℕ) (pod : Pod) → slice_get lists.pods place ≡ Some pod → P (owner_name pod))
      (numbered : (wish : List ℕ) (place : ℕ) → place < length (owner_names lists) → P wish → Q (wish ++ suffix (owner_names lists) place)) where
    owners-all : All P (owner_names lists)
    owners-all =
        All-map P (owner_name_at lists) (first_pods lists)
        (All-weaker (λ first. first < length lists.pods) (λ first. P (owner_name_at lists first)) each (first_pods lists) (firsts_within (pods_alike lists) (length lists.pods)))
      where
        each : (first : ℕ) → first < length lists.pods → P (owner_name_at lists first)
        each first within =
            let (pod, at) = slice_get-some lists.pods first within in
            subst (λ found. P (option_map_or owner_name found [])) (sym at) (owners first pod at)

    pub names-all : All Q (names_of (folding_of lists))
    unfolding folding_of workloads_of name_at
    names-all =
        subst (All Q) (sym (map-map (λ (one : Workload). one.name) (workload lists) (named_first_pods lists)))
        (All-map Q (λ (one : Named). one.name) (named_first_pods lists)
        (All-weaker (IsThing (owner_names lists)) (λ (one : Named). Q one.name) each (named_first_pods lists) (All-all_by_name (owner_names lists))))
      where
        each : (one : Named) → IsThing (owner_names lists) one → Q one.name
        each one is =
            subst Q (sym (ap (λ (other : Named). other.name) is.0)) (numbered (wish_at (owner_names lists) one.place) one.place is.1 (owners-all one.place [] is.1))
