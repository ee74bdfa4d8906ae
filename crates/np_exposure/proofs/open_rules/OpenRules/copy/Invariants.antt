use Rattle.std.proofs.Common.{◌≡◌, Bool, take}
use Rattle.std.specs.List.{list_any}
use Rattle.np_exposure.specs.Prelude.{RuleConns}
use Rattle.np_exposure.proofs.open_rules.OpenRules.copy.Given as goal

-- the open rules are those so far
abbrev pub invariant-loop-rule : goal.invariant-loop-rule
invariant-loop-rule l = (test : RuleConns → Bool) → list_any (λ rule. test rule.kept.now) l.open.items ≡ list_any (λ rule. test rule.kept.now) (take l.rule-index l.rule-items)
