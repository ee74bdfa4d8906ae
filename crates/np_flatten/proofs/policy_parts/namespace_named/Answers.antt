use Rattle.std.proofs.Common.{List, ℕ, [], ◌∷◌, ◌++◌, ap, ◌∙◌}
use Rattle.np_labels.specs.Prelude.{label_requirement}
use Rattle.np_flatten.specs.Prelude.{Requirement, Selector}
use Rattle.np_flatten.proofs.policy_parts.namespace_named.Goals as goal

pub returns : goal.returns
returns c =
    let of : List Requirement → Selector = λ all. record { requirements = all } in
    let one : Requirement → Selector = λ r. record { requirements = r ∷ [] } in
    ap of c.in_ok-push.ensures.ok
    ∙ ap (λ (all : List Requirement). of (all ++ c.in_ok-of_label.field-0 ∷ [])) c.new-requirements.ensures
    ∙ ap one (c.in_ok-of_label.ensures ∙ ap (λ (k : List ℕ). label_requirement (k, c.in_ok-copy.field-0)) c.in_ok-key.ensures ∙ ap (λ (n : List ℕ). label_requirement (_, n)) c.in_ok-copy.ensures)
