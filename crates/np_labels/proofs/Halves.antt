-- A value that is looked up by halves among values that ascend. For `Requirement::lists` and crates above.
use Rattle.std.proofs.Common.{◌≡◌, ℕ, ◌+◌, List, length, get_or, true, false, inl, inr, Result, Ok, Err, is_ok, refl, sym, ap, ◌∙◌, arith}
use Rattle.std.specs.Cmp.Lexicographic.{slice_cmp, nat_list_cmp_total}
use Rattle.std.specs.List.{All}
use Rattle.std.specs.List.Sorted.{IsBinarySearchResult, IsNonDecreasingBy, IsSearchInRange, IsSortedBy}
use Rattle.std.specs.Ordering.{nat_cmp, is_eq, is_lt, ordering_index, ordering_reverse}
use Rattle.std.specs.declared.cmp.Ordering.TheVariants.{Less, Greater}
use Rattle.std.specs.Str.{bytes_eq}
use Rattle.std.proofs.lemmas.Bool.{cases_lt}
use Rattle.std.proofs.lemmas.List.Folds.{list_any_at, list_any_none}
use Rattle.std.proofs.lemmas.List.Sorted.{searchable_from_sorted}
use Rattle.std.proofs.lemmas.Map.Keys.{Less-from_sorted}
use Rattle.std.proofs.lemmas.Map.Text.{is_eq-slice_cmp}
use Rattle.np_base.proofs.Orders.{texts-differ}
use Rattle.np_base.specs.Texts.{compare_texts}
use Rattle.np_labels.proofs.Distinct.{sorted-from_ascending}
use Rattle.np_labels.specs.Prelude.{is_ascending, is_listed}

module _ (values : List (List ℕ)) (ascending : is_ascending values ≡ true) (value : List ℕ) where
  not_lower : IsSortedBy (λ a b. is_lt (compare_texts a b)) values
  not_lower k d low high =
      let below = Less-from_sorted compare_texts values k (k + 1) d (sorted-from_ascending values ascending) (omega arith) high in
      ap is_lt (nat_list_cmp_total.antisymm (get_or values (k + 1) d) (get_or values k d) ∙ ap ordering_reverse below)

  -- the comparisons with a value rise along the values
  rising : IsNonDecreasingBy (λ listed. ordering_index (compare_texts listed value)) values
  rising = searchable_from_sorted nat_list_cmp_total (λ listed. listed) values value not_lower

  -- a search by halves answers whether the value is listed
  pub is_listed-by_halves : (found : Result ℕ ℕ) → IsSearchInRange found (length values) → IsBinarySearchResult (λ listed. slice_cmp nat_cmp listed value) values found →
      is_ok found ≡ is_listed values value
  is_listed-by_halves (Ok place) below equal =
      sym (list_any_at (λ (listed : List ℕ). bytes_eq listed value) values place value below
      (sym (is_eq-slice_cmp (get_or values place value) value) ∙ ap is_eq (equal value)))
  is_listed-by_halves (Err place) below apart = sym (list_any_none (λ (listed : List ℕ). bytes_eq listed value) values none)
    where
      none : All (λ listed. bytes_eq listed value ≡ false) values
      none k d high = elim (cases_lt k place) [
        | inl before ↦ texts-differ (get_or values k d) value Less ((apart rising).0 k d (omega arith) before) refl
        | inr after ↦ texts-differ (get_or values k d) value Greater ((apart rising).1 k d after high) refl
      ]
