-- The parts of a folding. For `Workloads::of_keys`, `Workloads::of_named` and crates above.
use Rattle.std.proofs.Common.{◌≡◌, ℕ, ◌^◌, ◌<◌, ◌≤◌, List, [], map, length, Bool, All, refl, sym, ap, subst, ◌∙◌, arith}
use Rattle.std.proofs.lemmas.List.{length-map}
use Rattle.std.proofs.lemmas.List.FromFn.{length-map-range_with_len, length-range_with_len}
use Rattle.std.proofs.lemmas.List.Sums.{count_by-le-length, length-filter}
use Rattle.std.specs.Prelude.{String}
use Rattle.std.specs.Cmp.Lexicographic.{slice_cmp}
use Rattle.std.specs.List.{zip}
use Rattle.std.specs.List.Sorted.{IsStrictlySortedBy}
use Rattle.std.specs.Ordering.{nat_cmp}
use Rattle.std.specs.declared.alloc.Global.{Global}
use Rattle.np_classes.specs.Classes.{firsts, is_first, numbered, places}
use Rattle.np_fold.specs.Prelude.{EstateLists, Folding, Named, Workload, classes_of_pods, first_kinds, folding_of, keys_of_estate, kinds_alike, kinds_of_workloads, named_first_pods, number_among, with_keys, workload, workload_count, workload_number, workload_of_entry, workload_of_pair, workloads_of}
use Rattle.np_fold.proofs.FoldLemmas.{numbers-are}
use Rattle.np_fold.proofs.MemberLemmas.{workloads-are}
use Rattle.np_fold.proofs.NumberLemmas.{classes-within, count-is, named-within, names-strict, numbers-within}
use Rattle.np_labels.proofs.Distinct.{distinct-sorted, is_listed-distinct}
use Rattle.np_labels.specs.Prelude.{is_listed}

-- the relevant keys are those that selectors name
pub keys-agree : (keys made more : List (List ℕ)) → made ≡ keys → keys ≡ with_keys [] more → (key : List ℕ) → is_listed made key ≡ is_listed more key
keys-agree keys made more same is key = rw (same, is) (is_listed-distinct more key)

-- and they ascend
pub keys-ascend : (keys made more : List (List ℕ)) → made ≡ keys → keys ≡ with_keys [] more → IsStrictlySortedBy (slice_cmp nat_cmp) made
keys-ascend keys made more same is = rw (same, is) (distinct-sorted more)

-- those of a folding too
pub relevant-ascend : (lists : EstateLists) (made : List (List ℕ)) → made ≡ (folding_of lists).relevant → IsStrictlySortedBy (slice_cmp nat_cmp) made
unfolding folding_of
relevant-ascend lists made is = keys-ascend (with_keys [] (keys_of_estate lists)) made (keys_of_estate lists) is refl

module _ (lists : EstateLists) (few : workload_count lists ≤ 2000) (named : List Named) (is : named ≡ named_first_pods lists) where
  -- there is one name for each first pod
  names-count : length named ≡ workload_count lists
  names-count = ap length is ∙ count-is lists

  pub names-few : length named < 2 ^ 32
  names-few = omega (arith, names-count, few)

  pub names-ascend : IsStrictlySortedBy (slice_cmp nat_cmp) (map (λ one. one.name) named)
  names-ascend = rw is (names-strict lists (omega (arith, few)))

  pub places-in : All (λ one. one.place < length named) named
  places-in = subst (λ (count : ℕ). All (λ one. one.place < count) named) (sym names-count) (rw is (named-within lists))

  pub classes-in : (classes : List ℕ) → classes ≡ classes_of_pods lists → All (λ class. class < length named) classes
  classes-in classes are = rw (are, is, count-is lists) (classes-within lists)

  -- ---- numbers of pods

  module _ (classes numbers : List ℕ) (are : classes ≡ classes_of_pods lists) (made : numbers ≡ map (number_among named) classes) where
    pub numbers-made : numbers ≡ map (workload_number lists) (places (length lists.pods))
    numbers-made = rw (made, is, are) (numbers-are lists)

    pub numbers-few : length lists.pods < 2 ^ 32 → length numbers < 2 ^ 32
    numbers-few fits = omega (arith, fits, ap length numbers-made, length-map-range_with_len (workload_number lists) 0 (length lists.pods))

    pub numbers-in : All (λ number. number < length named) numbers
    numbers-in = rw (numbers-made, is) (numbers-within lists)

    -- ---- workloads

    module _ (entries : List (String Global × List ℕ)) (put : map workload_of_entry entries ≡ map workload_of_pair (zip named (map (numbered numbers) (places (length named))))) where
      pub workloads-made : map workload_of_entry entries ≡ workloads_of lists
      workloads-made = put ∙ rw (is, numbers-made) (workloads-are lists)

      workloads-count : length (workloads_of lists) ≡ length (named_first_pods lists)
      unfolding workloads_of
      workloads-count = length-map (named_first_pods lists) (workload lists)

      pub workloads-few : length entries < 2 ^ 32
      workloads-few = omega (arith, few, length-map entries workload_of_entry, ap length workloads-made, workloads-count, count-is lists)

-- ---- kinds

pub length-firsts : (alike : ℕ → ℕ → Bool) (count : ℕ) → length (firsts alike count) ≤ count
unfolding firsts
length-firsts alike count = omega (arith, length-filter (is_first alike) (places count), count_by-le-length (is_first alike) (places count), length-range_with_len 0 count)

-- there are no more kinds than workloads
pub kinds-few : (lists : EstateLists) (made : List ℕ) → workload_count lists ≤ 2000 → made ≡ first_kinds lists → length made < 2 ^ 32
kinds-few lists made few is = omega (arith, few, ap length is, length-firsts (kinds_alike lists) (workload_count lists))

-- ---- all parts

pub folding-is : (lists : EstateLists) (workloads : List Workload) (numbers kinds first : List ℕ) (relevant : List (List ℕ))
    → workloads ≡ workloads_of lists → numbers ≡ map (workload_number lists) (places (length lists.pods)) → kinds ≡ kinds_of_workloads lists → first ≡ first_kinds lists → relevant ≡ with_keys []
    (keys_of_estate lists)
    → (let folding : Folding = record { workloads = workloads; numbers = numbers; kinds = kinds; kind_count = length first; first_of_kinds = first; relevant = relevant } in folding) ≡ folding_of lists
unfolding folding_of
folding-is lists workloads numbers kinds first relevant a b c d e = rw (a, b, c, d, e) refl
