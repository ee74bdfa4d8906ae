-- The pods of workloads. For `first_place`, `first_pod` and crates above.
use Rattle.std.proofs.Common.{◌≡◌, ◌≢◌, ◌<◌, ◌==◌, ◌&&◌, ℕ, List, [], ◌∷◌, Bool, true, false, Option, Some, None, Contains, length, slice_index_or, slice_get, get_or, Less, Equal, if◌then◌else◌, arith, refl, sym, subst, ◌∙◌, ap, eq-eqb, inl, inr}
use Rattle.std.specs.Cmp.{tied_itself}
use Rattle.std.specs.Option.{option_map_or}
use Rattle.std.specs.Ordering.{nat_cmp}
use Rattle.std.specs.Prelude.{IsSomeAnd}
use Rattle.std.proofs.lemmas.Bool.{and_parts, eqb-true, false_from_ne_true, false≢true}
use Rattle.std.proofs.lemmas.Cmp.{nat_cmp_total}
use Rattle.std.proofs.lemmas.Map.Keys.{Less-from_sorted}
use Rattle.std.proofs.lemmas.Bool.Decides.{eqb_tells}
use Rattle.std.proofs.lemmas.List.Elements.{All-contains, Contains-get_or}
use Rattle.std.proofs.lemmas.List.Folds.{Any-from_list_any, list_any_at}
use Rattle.std.proofs.lemmas.Option.{slice_get-get_or}
use Rattle.np_kinds.specs.Prelude.{EstateLists, IsWorkload, Pod, destination_pod, is_alone, source_pod}
use Rattle.np_fold.specs.Prelude.{Folding, Workload, folding_of, has_pod, members_of, workload_number, workloads_of}
use Rattle.np_fold.proofs.WorkloadLemmas.{first-is, member-by_number, number-in_workloads, pods-ascend, pods-within}
use Rattle.np_rules.specs.Prelude.{no_pod, pod_end}

-- ---- workloads have pods

workload-within : (lists : EstateLists) (number : ℕ) → number < length (folding_of lists).workloads → number < length (workloads_of lists)
unfolding folding_of
workload-within lists number within = within

some_first : (xs : List ℕ) (P : ℕ → Type 0) → IsSomeAnd (slice_get xs 0) P → 0 < length xs
some_first [] P some = absurd some
some_first (x ∷ xs) P some = omega arith

-- each workload has a pod
pub members-some : (lists : EstateLists) (folding : Folding) (number : ℕ) → folding ≡ folding_of lists → number < length folding.workloads → 0 < length (members_of folding number)
members-some lists folding number folded within =
    let of : Folding → Type 0 = λ f. number < length f.workloads → 0 < length (members_of f number) in
    subst of (sym folded) (λ here. some_first (members_of (folding_of lists) number) _ (first-is lists number (workload-within lists number here))) within

-- each of its pods is one of the estate
pub members-within : (lists : EstateLists) (folding : Folding) (number place : ℕ) → folding ≡ folding_of lists → number < length folding.workloads → Contains (members_of folding number) place →
    place < length lists.pods
members-within lists folding number place folded within has =
    let of : Folding → Type 0 = λ f. number < length f.workloads → Contains (members_of f number) place → place < length lists.pods in
    subst of (sym folded) (λ here has. All-contains (λ (p : ℕ). p < length lists.pods) (members_of (folding_of lists) number) place (pods-within lists number (workload-within lists number here)) has)
    within has

-- ---- the pods that stand for a workload

-- the one for the source is one of its pods
pub source-member : (folding : Folding) (number : ℕ) → 0 < length (members_of folding number) → Contains (members_of folding number) (source_pod folding number)
source-member folding number some = Contains-get_or (members_of folding number) 0 0 some

index-within : (same : Bool) (count : ℕ) → 0 < count → (same && count == 1) ≡ false → (if same then 1 else 0) < count
index-within true count some alone = grind arith
index-within false count some alone = some

-- a workload meets itself alone where the destination has one pod
is_alone-destination : (folding : Folding) (source destination : ℕ) → is_alone folding source destination ≡ (source == destination && length (members_of folding destination) == 1)
is_alone-destination folding source destination =
    elim (eqb_tells source destination) [
      | inl same ↦ ap (λ (n : ℕ). source == destination && length (members_of folding n) == 1) same.1
      | inr apart ↦ rw apart.0 refl
    ]

-- and that for the destination one of its, unless a workload of one pod meets itself
pub destination-member : (folding : Folding) (source destination : ℕ) → 0 < length (members_of folding destination) → is_alone folding source destination ≡ false →
    Contains (members_of folding destination) (destination_pod folding source destination)
destination-member folding source destination some alone =
    Contains-get_or (members_of folding destination) (if source == destination then 1 else 0) 0
    (index-within (source == destination) (length (members_of folding destination)) some (sym (is_alone-destination folding source destination) ∙ alone))

-- ---- members and numbers

-- members are found by the question
has_member-from : (one : Workload) (place : ℕ) → Contains one.members place → has_pod place one ≡ true
has_member-from one place has = list_any_at (λ (member : ℕ). member == place) one.members has.0 place has.1 (eq-eqb _ place has.2)

-- and no other places
from_has_member : (one : Workload) (place : ℕ) → has_pod place one ≡ true → Contains one.members place
from_has_member one place has =
    let any = Any-from_list_any (λ (member : ℕ). member == place) one.members has in
    let at : ℕ → Type 0 = λ n. slice_index_or one.members any.0 n ≡ n in
    (any.0, any.2, subst at (eqb-true any.1 place any.4) any.3)

nothing_in_none : (place : ℕ) → Contains [] place → ⊥
nothing_in_none place has = omega (arith, has.1)

number-by : (lists : EstateLists) (number place : ℕ) (found : Option Workload) → slice_get (workloads_of lists) number ≡ found → place < length lists.pods →
    Contains (option_map_or (λ one. one.members) found []) place → workload_number lists place ≡ number
number-by lists number place None is within has = absurd (nothing_in_none place has)
number-by lists number place (Some one) is within has =
    sym (eqb-true number (workload_number lists place) (sym (member-by_number lists place number one within is) ∙ has_member-from one place has))

-- a member of a workload has the workload's number
pub member-number : (lists : EstateLists) (number place : ℕ) → place < length lists.pods → Contains (members_of (folding_of lists) number) place → workload_number lists place ≡ number
unfolding folding_of
member-number lists number place within has = number-by lists number place (slice_get (workloads_of lists) number) refl within has

own-by : (lists : EstateLists) (place : ℕ) (found : Option Workload) → slice_get (workloads_of lists) (workload_number lists place) ≡ found → place < length lists.pods →
    Contains (option_map_or (λ one. one.members) found []) place
own-by lists place None is within = absurd (none (workloads_of lists) (workload_number lists place) (number-in_workloads lists place within) is)
  where
    none : (xs : List Workload) (i : ℕ) → i < length xs → slice_get xs i ≡ None → ⊥
    none [] i below is = omega arith
    none (x ∷ xs) i below is = let here : slice_get (x ∷ xs) i ≡ Some (get_or (x ∷ xs) i x) = slice_get-get_or (x ∷ xs) i x below in cc
own-by lists place (Some one) is within =
    from_has_member one place (member-by_number lists place (workload_number lists place) one within is ∙ eq-eqb (workload_number lists place) (workload_number lists place) refl)

-- and a pod is a member of the workload of its number
pub own-member : (lists : EstateLists) (place : ℕ) → place < length lists.pods → Contains (members_of (folding_of lists) (workload_number lists place)) place
unfolding folding_of
own-member lists place within = own-by lists place (slice_get (workloads_of lists) (workload_number lists place)) refl within

-- ---- two pods

only_one : (x p : ℕ) (xs : List ℕ) → Contains (x ∷ xs) p → length (x ∷ xs) ≡ 1 → x ≡ p
only_one x p xs has one =
    let first : has.0 ≡ 0 = omega (arith, has.1, one) in
    let at : ℕ → Type 0 = λ k. slice_index_or (x ∷ xs) k p ≡ p in
    subst at first has.2

two_in_one : (xs : List ℕ) (p q : ℕ) → Contains xs p → Contains xs q → p ≢ q → length xs ≡ 1 → ⊥
two_in_one [] p q has has' differ one = nothing_in_none p has
two_in_one (x ∷ xs) p q has has' differ one = differ (sym (only_one x p xs has one) ∙ only_one x q xs has' one)

-- workloads of two different pods are no workload of one pod with itself
pub not-alone : (folding : Folding) (a b p q : ℕ) → Contains (members_of folding a) p → Contains (members_of folding b) q → p ≢ q → is_alone folding a b ≡ false
not-alone folding a b p q has has' differ =
    false_from_ne_true (is_alone folding a b) (λ yes.
    let parts = and_parts (a == b) (length (members_of folding a) == 1) yes in
    let in_a : Contains (members_of folding a) q = subst (λ (n : ℕ). Contains (members_of folding n) q) (sym (eqb-true a b parts.0)) has' in
    two_in_one (members_of folding a) p q has in_a differ (eqb-true (length (members_of folding a)) 1 parts.1))

two : (count : ℕ) → 0 < count → (count == 1) ≡ false → 1 < count
two count some other = grind arith

-- those that stand for two workloads are two
pub pods-apart : (lists : EstateLists) (a b : ℕ) → IsWorkload lists a → IsWorkload lists b → is_alone (folding_of lists) a b ≡ false
    → source_pod (folding_of lists) a ≢ destination_pod (folding_of lists) a b
pods-apart lists a b a_in b_in alone same = by (a == b) refl
  where
    folding : Folding
    folding = folding_of lists

    a_has : Contains (members_of (folding_of lists) a) (source_pod (folding_of lists) a)
    a_has = source-member (folding_of lists) a (members-some lists (folding_of lists) a refl a_in)

    b_has : Contains (members_of (folding_of lists) b) (destination_pod (folding_of lists) a b)
    b_has = destination-member (folding_of lists) a b (members-some lists (folding_of lists) b refl b_in) alone

    number : (w p : ℕ) → IsWorkload lists w → Contains (members_of (folding_of lists) w) p → workload_number lists p ≡ w
    number w p w_in has = member-number lists w p (members-within lists (folding_of lists) w p refl w_in has) has

    one : a ≡ b
    one = sym (number a (source_pod (folding_of lists) a) a_in a_has) ∙ ap (workload_number lists) same ∙ number b (destination_pod (folding_of lists) a b) b_in b_has

    by : (equal : Bool) → (a == b) ≡ equal → ⊥
    by false is = false≢true (sym is ∙ eq-eqb a b one)
    by true is =
        let pods = members_of (folding_of lists) b in
        let near : source_pod (folding_of lists) a ≡ get_or pods 0 0 = ap (λ (number : ℕ). get_or (members_of (folding_of lists) number) 0 0) one in
        let far : destination_pod (folding_of lists) a b ≡ get_or pods 1 0 = rw is refl in
        let lone : (length (members_of (folding_of lists) a) == 1) ≡ false = rw is at alone in
        let more : 1 < length pods = two (length pods) (members-some lists (folding_of lists) b refl b_in) (ap (λ (number : ℕ). length (members_of (folding_of lists) number) == 1) (sym one) ∙ lone) in
        let less : nat_cmp (get_or pods 0 0) (get_or pods 1 0) ≡ Less = Less-from_sorted nat_cmp pods 0 1 0 (pods-ascend lists b) (omega arith) more in
        let equal : get_or pods 0 0 ≡ get_or pods 1 0 = sym near ∙ same ∙ far in
        let tie : nat_cmp (get_or pods 0 0) (get_or pods 1 0) ≡ Equal = ap (nat_cmp (get_or pods 0 0)) (sym equal) ∙ tied_itself nat_cmp_total (get_or pods 0 0) in
        apart (sym less ∙ tie)
      where
        apart : Less ≡ Equal → ⊥
        apart is = cc

-- the pod at a place, as rules see it
pub pod-first : (pods all : List Pod) (place first : ℕ) (a : Pod) → pods ≡ all → place ≡ first → place < length pods → a ≡ get_or pods place a
    → pod_end a ≡ option_map_or pod_end (slice_get all first) no_pod
pod-first pods all place first a same same' within is =
    sym (ap (λ (found : Option Pod). option_map_or pod_end found no_pod) (slice_get-get_or pods place a within ∙ ap (λ (x : Pod). Some x) (sym is)))
    ∙ ap (λ (xs : List Pod). option_map_or pod_end (slice_get xs place) no_pod) same
    ∙ ap (λ (n : ℕ). option_map_or pod_end (slice_get all n) no_pod) same'
