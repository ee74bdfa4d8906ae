-- The groups of workloads by lists of numbers and of first workloads. For `Flat::next_like` and `first_unlike`.
use Rattle.std.proofs.Common.{◌≡◌, ℕ, ◌<◌, List, All, map, length, slice_get, slice_index, sym, ap, subst, ◌∙◌}
use Rattle.std.proofs.lemmas.List.{length-map}
use Rattle.std.proofs.lemmas.List.Elements.{All-get_or}
use Rattle.std.proofs.lemmas.List.FromFn.{length-range_with_len}
use Rattle.std.proofs.lemmas.Option.{get_or_from_slice_get}
use Rattle.np_classes.proofs.Relations.{class_within}
use Rattle.np_classes.specs.Classes.{places}
use Rattle.np_flatten.specs.Prelude.{EstateLists, are_together, first_by, first_with, group_firsts, group_of}
use Rattle.np_fold.specs.Prelude.{folding_of}
use Rattle.np_flatten.proofs.ClassFirsts.{first-in}
use Rattle.np_flatten.proofs.GroupLemmas.{get-map, together-is}
use Rattle.np_kinds.proofs.KindNumbers.{firsts-workloads}
use Rattle.np_kinds.specs.Prelude.{IsWorkload, number_of_workloads}

-- the first workload of a kind is a workload
pub item-in : (lists : EstateLists) (items : List ℕ) (i : ℕ) → items ≡ (folding_of lists).first_of_kinds → i < length items → slice_index items i < number_of_workloads lists
item-in lists items i is within =
    All-get_or (IsWorkload lists) items i 0 within (subst (λ (all : List ℕ). All (IsWorkload lists) all) (sym is) (firsts-workloads lists))

module _ (lists : EstateLists) (numbers firsts : List ℕ) (numbers_are : numbers ≡ map (group_of lists) (places (number_of_workloads lists))) (firsts_are : firsts ≡ group_firsts lists) where
  -- each workload has a number
  pub numbers-count : length numbers ≡ number_of_workloads lists
  numbers-count = ap length numbers_are ∙ length-map (places (number_of_workloads lists)) (group_of lists) ∙ length-range_with_len 0 (number_of_workloads lists)

  -- that of its group
  pub number-is : (w : ℕ) → w < number_of_workloads lists → slice_index numbers w ≡ group_of lists w
  number-is w within = get_or_from_slice_get numbers w (group_of lists w) 0 (ap (λ (all : List ℕ). slice_get all w) numbers_are ∙ get-map (group_of lists) (number_of_workloads lists) w within)

  -- which has a first workload
  pub number-in : (w : ℕ) → w < number_of_workloads lists → slice_index numbers w < length firsts
  number-in w within =
      rw (number-is w within, firsts_are) (class_within (are_together lists) (number_of_workloads lists) (together-is lists (number_of_workloads lists)) w within)

  -- the first of its group
  pub first_by-is : (w : ℕ) → w < number_of_workloads lists → first_by firsts numbers w ≡ first_with lists w
  first_by-is w within =
      ap (slice_index firsts) (number-is w within) ∙ ap (λ (all : List ℕ). slice_index all (group_of lists w)) firsts_are

  pub first_by-in : (w : ℕ) → w < number_of_workloads lists → first_by firsts numbers w < number_of_workloads lists
  first_by-in w within =
      subst (λ (n : ℕ). n < number_of_workloads lists) (sym (first_by-is w within)) (first-in (are_together lists) (number_of_workloads lists) (together-is lists (number_of_workloads lists)) w within)
