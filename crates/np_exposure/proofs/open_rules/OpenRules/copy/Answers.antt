use Rattle.std.proofs.Common.{◌||◌, ap, ◌∙◌}
use Rattle.std.specs.List.{list_any}
use Rattle.std.proofs.Math.Bool.{or-false}
use Rattle.np_conns.specs.Prelude.{has_spot}
use Rattle.np_exposure.proofs.SettledLemmas.{all-rules}
use Rattle.np_exposure.specs.Prelude.{rule_matches}
use Rattle.np_exposure.proofs.open_rules.OpenRules.copy.Goals as goal
use Rattle.np_rules.specs.Prelude.{kept_matches, pod, stranger_end}

pub returns : goal.returns
returns c = λ namespace s spot.
    all-rules namespace s spot c.args.self.now c.deref-rule-items.result.now c.loop-rule.rule-index _ c.deref-rule-items.ensures.value c.loop-rule-test.false
    (ap (λ b. b || list_any (rule_matches namespace s spot) c.loop-rule.open.items) (c.in_ok-joined_set.ensures spot ∙ or-false (has_spot c.args.self.now.settled spot))
    ∙ ap (λ b. has_spot c.args.self.now.settled spot || b) (c.loop-rule.invariant (kept_matches namespace (pod (stranger_end s)) spot)))
