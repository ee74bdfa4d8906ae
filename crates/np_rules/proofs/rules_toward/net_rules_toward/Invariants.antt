use Rattle.std.proofs.Common.{◌≡◌, filter, map, take}
use Rattle.np_rules.specs.Prelude.{net_rule_reaches, end_view}
use Rattle.np_rules.proofs.rules_toward.net_rules_toward.Given as goal

-- the rules so far are those of the first ones of which some peer matches the end
abbrev pub invariant-loop-rule : goal.invariant-loop-rule
invariant-loop-rule l = map (λ rule. rule.now) l.made.items ≡ filter (net_rule_reaches l.namespace (end_view l.far)) (map (λ rule. rule.now) (take l.rule-index l.rules))
