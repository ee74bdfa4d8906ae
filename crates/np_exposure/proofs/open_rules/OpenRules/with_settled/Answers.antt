use Rattle.std.proofs.Common.{◌||◌, ap, ◌∙◌}
use Rattle.std.specs.List.{list_any}
use Rattle.np_conns.specs.Prelude.{has_spot}
use Rattle.np_exposure.specs.Prelude.{rule_matches}
use Rattle.np_exposure.proofs.open_rules.OpenRules.with_settled.Goals as goal

pub returns : goal.returns
returns c = λ s witness spot.
    ap (λ b. b || list_any (rule_matches c.args.namespace.now s spot) c.sort.new.opens.items)
    (c.in_ok-joined_set.ensures spot ∙ ap (list_any (λ set. has_spot set.now spot)) c.deref.ensures.value)
    ∙ c.in_ok-sort.ensures s witness spot
