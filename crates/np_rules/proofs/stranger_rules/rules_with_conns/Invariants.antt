use Rattle.std.proofs.Common.{◌≡◌, map, take}
use Rattle.std.specs.List.{AllByRecursion}
use Rattle.np_rules.specs.Prelude.{HasPorts, end_view, rule_of}
use Rattle.np_rules.proofs.stranger_rules.rules_with_conns.Given as goal

-- the rules so far, each with its set
abbrev pub invariant-loop-rule : goal.invariant-loop-rule
invariant-loop-rule l = record {
  rules : map rule_of l.made.items ≡ map (λ rule. rule.now) (take l.rule-index l.rules);
  conns : AllByRecursion (HasPorts l.ends.direction (end_view l.ends.near)) l.made.items;
}
