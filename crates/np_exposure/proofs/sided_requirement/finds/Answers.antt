use Rattle.std.proofs.Common.{ℕ, List, length, rules, subst, ◌∙◌}
use Rattle.std.proofs.lemmas.Fn.{always_returns_same}
use Rattle.std.specs.Cmp.Lexicographic.{slice_cmp}
use Rattle.std.specs.List.Sorted.{IsBinarySearchResult, IsSearchInRange}
use Rattle.std.specs.Ordering.{nat_cmp}
use Rattle.np_labels.proofs.Halves.{is_listed-by_halves}
use Rattle.np_exposure.proofs.sided_requirement.finds.Goals as goal

pub returns : goal.returns
returns c =
    c.is_ok.ensures.value ∙ is_listed-by_halves c.args.requirement.now.values c.args.requirement.now.ascending c.args.value.now c.binary_search_by.result
    (subst (λ (values : List (List ℕ)). IsSearchInRange c.binary_search_by.result (length values)) c.items.ensures c.binary_search_by.ensures.bound)
    (subst (λ (values : List (List ℕ)). IsBinarySearchResult (λ listed. slice_cmp nat_cmp listed c.args.value.now) values c.binary_search_by.result) c.items.ensures
    (c.binary_search_by.ensures.position (λ listed. slice_cmp nat_cmp listed c.args.value.now) (always_returns_same _ _ _ (λ a r next called. search rules))))
