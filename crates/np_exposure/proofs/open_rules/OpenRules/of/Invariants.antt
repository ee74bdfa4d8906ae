use Rattle.std.proofs.Common.{◌≡◌, Bool, take}
use Rattle.std.specs.List.{list_any}
use Rattle.np_exposure.specs.Prelude.{RuleConns}
use Rattle.np_exposure.proofs.open_rules.OpenRules.of.Given as goal

-- the open rules are those so far
abbrev pub invariant-loop-kept : goal.invariant-loop-kept
invariant-loop-kept l = (test : RuleConns → Bool) → list_any (λ rule. test rule.kept.now) l.open.items ≡ list_any test (take l.kept-index l.net_rules)
