-- Labels that a selector does not tell apart. For crates above.
use Rattle.std.proofs.Common.{◌≡◌, ℕ, List, [], ◌∷◌, map, ◌&&◌, Option, refl, ap, ◌∙◌}
use Rattle.std.specs.List.{AllByRecursion, list_all}
use Rattle.np_fold.specs.Prelude.{Pair, Selector, keys_of_selector}
use Rattle.np_labels.specs.Prelude.{AgreeOn, meets_requirement, meets_selector, op_allows}
use Rattle.np_labels.specs.declared.requirement.Requirement.{Requirement}

requirements-agree : (one other : List Pair) (requirements : List Requirement) → AllByRecursion (AgreeOn one other) (map (λ requirement. requirement.key) requirements) →
    list_all (λ requirement. meets_requirement requirement one) requirements ≡ list_all (λ requirement. meets_requirement requirement other) requirements
requirements-agree one other [] agree = refl
requirements-agree one other (requirement ∷ requirements) agree =
    ap (λ (found : Option (List ℕ)). op_allows requirement.op requirement.values found && list_all (λ more. meets_requirement more one) requirements) agree.0
    ∙ ap (λ b. meets_requirement requirement other && b) (requirements-agree one other requirements agree.1)

-- a selector is met alike by labels that agree on its keys
pub selector-agree : (one other : List Pair) (selector : Selector) → AllByRecursion (AgreeOn one other) (keys_of_selector selector) → meets_selector selector one ≡ meets_selector selector other
selector-agree one other selector agree = requirements-agree one other selector.requirements agree
