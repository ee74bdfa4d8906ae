-- Pods of one namespace have the same labels of it. For crates above.
use Rattle.std.proofs.Common.{◌≡◌, ◌<◌, ℕ, List, AllPairs, Option, Some, get_or, sym, ap, subst, inl, inr}
use Rattle.std.specs.List.{slice_get}
use Rattle.std.proofs.lemmas.Bool.{cases_order}
use Rattle.std.proofs.lemmas.Option.{get_or_from_slice_get, slice_get_within}
use Rattle.np_model.specs.Prelude.{AgreeOnNamespace, IsLawful}
use Rattle.np_fold.specs.Prelude.{EstateLists, Pod}

-- pods that stand in order and are of one namespace have the same labels of it
namespaces_agree : (pods : List Pod) (i j : ℕ) (a b : Pod) → AllPairs AgreeOnNamespace pods → slice_get pods i ≡ Some a → slice_get pods j ≡ Some b → i < j → AgreeOnNamespace a b
namespaces_agree pods i j a b agree is is' before =
    let later = agree i j a before (slice_get_within pods j b is') in
    subst (λ (x : Pod). AgreeOnNamespace x b) (get_or_from_slice_get pods i a a is) (subst (λ (y : Pod). AgreeOnNamespace (get_or pods i a) y) (get_or_from_slice_get pods j b a is') later)

same_some : (found : Option Pod) (a b : Pod) → found ≡ Some a → found ≡ Some b → a ≡ b
same_some found a b is is' = cc

-- and so in whatever order they stand
pub labels_agree : (lists : EstateLists) (i j : ℕ) (a b : Pod) → IsLawful lists → slice_get lists.pods i ≡ Some a → slice_get lists.pods j ≡ Some b → a.namespace ≡ b.namespace →
    a.namespace_labels ≡ b.namespace_labels
labels_agree lists i j a b lawful is is' same =
    elim (cases_order i j) [
      | inl equal ↦ ap (λ (p : Pod). p.namespace_labels) (same_some (slice_get lists.pods j) a b (subst (λ (k : ℕ). slice_get lists.pods k ≡ Some a) equal is) is')
      | inr (inl before) ↦ namespaces_agree lists.pods i j a b lawful.namespaces_agree is is' before same
      | inr (inr after) ↦ sym (namespaces_agree lists.pods j i b a lawful.namespaces_agree is' is after (sym same))
    ]
