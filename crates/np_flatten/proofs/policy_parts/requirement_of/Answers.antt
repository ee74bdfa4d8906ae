use Rattle.std.proofs.Common.{List, ℕ, [], ap, ◌∙◌}
use Rattle.std.proofs.lemmas.Result.{IfOk-weaker}
use Rattle.np_labels.specs.Prelude.{requirement_of, value_of}
use Rattle.np_flatten.specs.Prelude.{Absent, requirement_at}
use Rattle.np_flatten.proofs.policy_parts.requirement_of.Goals as goal

pub returns-in_ok-copy-in-None : goal.returns-in_ok-copy-in-None
returns-in_ok-copy-in-None c =
    let found = c.in-None.ensures ∙ ap (value_of c.args.labels.now) c.as_str.ensures in
    IfOk-weaker c.of-in-None.result _ _ (λ made is.
    is
    ∙ ap (λ (values : List (List ℕ)). requirement_of c.in_ok-copy-in-None.field-0 Absent values) c.new.ensures
    ∙ ap (λ (key : List ℕ). requirement_of key Absent []) c.in_ok-copy-in-None.ensures
    ∙ ap (requirement_at c.args.key.now) found) c.of-in-None.ensures.value
