use Rattle.std.proofs.Common.{◌≡◌, ◌++◌, flat_map, take}
use Rattle.np_exposure.specs.Prelude.{of_net_rule}
use Rattle.np_exposure.proofs.mentions.add_net_rules.Given as goal

abbrev pub invariant-loop-rule : goal.invariant-loop-rule
invariant-loop-rule l = l.made.items ≡ l.fn.made.items ++ flat_map (λ rule. of_net_rule l.namespace rule.now) (take l.rule-index l.rules)
