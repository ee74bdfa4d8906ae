use Rattle.std.proofs.Common.{◌∙◌}
use Rattle.std.proofs.lemmas.Result.{IfOk-weaker}
use Rattle.np_rules.proofs.port_sets.joined_set.Goals as goal

pub returns : goal.returns
returns g c = IfOk-weaker c.joined_by_halves.result _ _ (λ made members spot inside. members spot inside ∙ c.in_ok-matching.ensures spot)
    (rw c.deref.ensures.value at c.joined_by_halves.ensures)
