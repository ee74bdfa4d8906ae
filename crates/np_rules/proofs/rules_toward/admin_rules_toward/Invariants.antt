use Rattle.std.proofs.Common.{◌≡◌, filter, map, take}
use Rattle.np_rules.specs.Prelude.{admin_rule_reaches, end_view}
use Rattle.np_rules.proofs.rules_toward.admin_rules_toward.Given as goal

-- the rules so far are those of the first ones of which some peer matches the end
abbrev pub invariant-loop-rule : goal.invariant-loop-rule
invariant-loop-rule l = map (λ rule. rule.now) l.made.items ≡ filter (admin_rule_reaches (end_view l.far) l.family) (map (λ rule. rule.now) (take l.rule-index l.rules))
