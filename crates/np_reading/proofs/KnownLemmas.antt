-- The labels of namespaces that are known already. For `shared_labels`.
use Rattle.std.proofs.Common.{◌≡◌, ℕ, List, Bool, true, false, cond, Some, refl, sym, ◌∙◌}
use Rattle.std.specs.BTreeMap.{BTreeMap, get}
use Rattle.std.specs.Cmp.Lexicographic.{slice_cmp, bytes_decides, texts_ties}
use Rattle.std.specs.Ordering.{is_eq, nat_cmp}
use Rattle.np_reading.specs.Prelude.{Item, KnowsLabels, Pair, namespace_labels}

-- with the labels of one more namespace, all that is known is right still
pub KnowsLabels-more : (items : List Item) (known new : BTreeMap (List ℕ) (List Pair)) (added : List ℕ) → KnowsLabels items known
    → ((name : List ℕ) → get (slice_cmp nat_cmp) new name ≡ cond (is_eq (slice_cmp nat_cmp added name)) (Some (namespace_labels items added)) (get (slice_cmp nat_cmp) known name))
    → KnowsLabels items new
KnowsLabels-more items known new added knows after name labels found =
    by (is_eq (slice_cmp nat_cmp added name)) refl (sym (after name) ∙ found)
  where
    by : (b : Bool) → is_eq (slice_cmp nat_cmp added name) ≡ b → cond b (Some (namespace_labels items added)) (get (slice_cmp nat_cmp) known name) ≡ Some labels → labels ≡ namespace_labels items name
    by true here is =
        let same : added ≡ name = (bytes_decides added name).0 (texts_ties added name ∙ here) in
        let labels_is : namespace_labels items added ≡ labels = cc in
        rw (← same, ← labels_is) refl
    by false apart is = knows name labels is
