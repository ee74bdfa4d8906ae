use Rattle.std.proofs.Common.{◌||◌, ap, ◌∙◌}
use Rattle.std.proofs.lemmas.List.{take_all}
use Rattle.std.specs.List.{list_any}
use Rattle.np_exposure.specs.Prelude.{rule_matches}
use Rattle.np_exposure.proofs.open_rules.OpenRules.of.Goals as goal
use Rattle.np_rules.specs.Prelude.{kept_matches, near_pod, pod, stranger_end}

pub returns : goal.returns
returns c = λ s spot within.
    let namespace = (near_pod c.args.rules.now).namespace in
    ap (λ b. b || list_any (rule_matches namespace s spot) c.loop-kept.open.items) (c.in_ok-joined_set.ensures spot)
    ∙ c.loop-kept.invariant (kept_matches namespace (pod (stranger_end s)) spot)
    ∙ ap (list_any (kept_matches namespace (pod (stranger_end s)) spot)) (take_all c.loop-kept.kept-index c.args.net_rules.now c.loop-kept-test.false)
    ∙ c.requires s spot within
