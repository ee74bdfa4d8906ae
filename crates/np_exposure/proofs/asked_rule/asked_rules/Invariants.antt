use Rattle.std.proofs.Common.{◌≡◌, take}
use Rattle.np_exposure.proofs.asked_rule.asked_rules.Given as goal

-- the rules so far
abbrev pub invariant-loop-rule : goal.invariant-loop-rule
invariant-loop-rule l = l.made.items ≡ take l.rule-index l.rules
