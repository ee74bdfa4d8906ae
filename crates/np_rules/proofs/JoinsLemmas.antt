-- Sets joined one after another, and in halves. For `joined_by_halves`, `joined_rules` and `joined_set`.
use Rattle.std.proofs.Common.{◌≡◌, ℕ, List, Bool, ◌||◌, ◌++◌, take, drop, sym, ap, ◌∙◌}
use Rattle.std.specs.List.{list_any}
use Rattle.std.proofs.lemmas.List.{take-append-drop}
use Rattle.std.proofs.lemmas.List.Folds.{list_any-append}

-- what the join of the sets of both halves has is what some item has
pub joins-halves : {X : Type 0} (has : X → Bool) (items front back : List X) (half : ℕ) (here there made : Bool) → front ≡ take half items → back ≡ drop half items → made ≡ (here || there) →
    here ≡ list_any has front → there ≡ list_any has back → made ≡ list_any has items
joins-halves {X} has items front back half here there made is_front is_back joined in_front in_back =
    let or_there : Bool → Bool = λ b. b || there in
    let or_back : Bool → Bool = λ b. list_any has front || b in
    let behind : List X → List X = λ xs. xs ++ back in
    let before : List X → List X = λ xs. take half items ++ xs in
    joined ∙ ap or_there in_front ∙ ap or_back in_back ∙ sym (list_any-append has front back)
    ∙ ap (list_any has) (ap behind is_front ∙ ap before is_back ∙ take-append-drop half items)
