use Rattle.std.proofs.Common.{◌≡◌, ◌++◌, flat_map, take}
use Rattle.np_exposure.specs.Prelude.{of_admin_rule}
use Rattle.np_exposure.proofs.mentions.add_base_rules.Given as goal

abbrev pub invariant-loop-rule : goal.invariant-loop-rule
invariant-loop-rule l = l.made.items ≡ l.fn.made.items ++ flat_map of_admin_rule (take l.rule-index l.rules)
