use Rattle.std.proofs.Common.{◌≡◌, take}
use Rattle.np_rules.specs.Prelude.{ids_of}
use Rattle.np_rules.proofs.rule_ids.rule_ids.Given as goal

-- the names of the rules of the policies so far
abbrev pub invariant-loop-policy : goal.invariant-loop-policy
invariant-loop-policy g l = l.ids.items ≡ ids_of (take l.policy-index l.policies)
