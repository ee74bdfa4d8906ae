use Rattle.std.proofs.Common.{◌≡◌, ◌++◌}
use Rattle.np_unused.specs.Prelude.{rules_from}
use Rattle.np_unused.proofs.all_rules.push_rules.Given as goal

abbrev pub invariant-loop-place : goal.invariant-loop-place
invariant-loop-place l = l.rules ≡ l.initial.rules ++ rules_from l.tier l.policy l.direction l.place
