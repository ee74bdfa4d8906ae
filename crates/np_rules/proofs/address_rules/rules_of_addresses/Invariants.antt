use Rattle.std.proofs.Common.{◌≡◌, filter, map, take}
use Rattle.np_rules.proofs.address_rules.rules_of_addresses.Given as goal

-- the rules so far are those of the first ones that may match an address
abbrev pub invariant-loop-rule : goal.invariant-loop-rule
invariant-loop-rule g l = map (λ rule. rule.now) l.made.items ≡ filter g.R.AddressRule.may_match (map (λ rule. rule.now) (take l.rule-index l.rules))
