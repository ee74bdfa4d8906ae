use Rattle.std.proofs.Common.{◌≡◌, ◌++◌, flat_map, take}
use Rattle.np_exposure.specs.Prelude.{of_admin_rule}
use Rattle.np_exposure.proofs.mentions.add_admin_rules.Given as goal

abbrev pub invariant-loop-rule : goal.invariant-loop-rule
invariant-loop-rule l = l.made.items ≡ l.fn.made.items ++ flat_map (λ rule. of_admin_rule rule.now) (take l.rule-index l.rules)
