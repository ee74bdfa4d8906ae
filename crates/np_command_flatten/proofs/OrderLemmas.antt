-- Texts that ascend: what is above all before it goes last. For ReadableLemmas and SelectorReads.
use Rattle.std.proofs.Common.{◌≡◌, ℕ, List, [], ◌∷◌, ◌++◌, true, refl, sym, ap, ◌∙◌}
use Rattle.std.proofs.lemmas.Bool.{and_parts}
use Rattle.std.proofs.lemmas.List.Folds.{list_all-append}
use Rattle.std.specs.BTreeSet.{insert_key}
use Rattle.std.specs.Cmp.Lexicographic.{slice_cmp, nat_list_cmp_total}
use Rattle.std.specs.List.{AllByRecursion, list_all}
use Rattle.std.specs.Ordering.{nat_cmp, ordering_reverse}
use Rattle.std.specs.declared.cmp.Ordering.TheVariants.{Greater}
use Rattle.np_labels.specs.Prelude.{Less-from_test, is_ascending, is_below}

-- a text is above each of some
abbrev pub IsAbove : List ℕ → List (List ℕ) → Type 0
IsAbove text others = AllByRecursion (λ other. slice_cmp nat_cmp text other ≡ Greater) others

pub above-before : (before rest : List (List ℕ)) (text : List ℕ) → is_ascending (before ++ text ∷ rest) ≡ true → IsAbove text before
above-before [] rest text ascending = tt
above-before (first ∷ before) rest text ascending =
    let parts = and_parts (list_all (is_below first) (before ++ text ∷ rest)) (is_ascending (before ++ text ∷ rest)) ascending in
    let behind = and_parts (list_all (is_below first) before) (list_all (is_below first) (text ∷ rest)) (sym (list_all-append (is_below first) before (text ∷ rest)) ∙ parts.0) in
    let less = Less-from_test (slice_cmp nat_cmp first text) (and_parts (is_below first text) (list_all (is_below first) rest) behind.1).0 in
    (nat_list_cmp_total.antisymm text first ∙ ap ordering_reverse less, above-before before rest text parts.1)

pub insert-last : (before : List (List ℕ)) (text : List ℕ) → IsAbove text before → insert_key (slice_cmp nat_cmp) before text ≡ before ++ text ∷ []
insert-last [] text above = refl
insert-last (first ∷ before) text above = rw above.0 (ap (λ (more : List (List ℕ)). first ∷ more) (insert-last before text above.1))
