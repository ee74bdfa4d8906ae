use Rattle.std.proofs.Common.{◌≡◌, ◌++◌}
use Rattle.np_rules.specs.Prelude.{ids_from}
use Rattle.np_rules.proofs.rule_ids.push_ids.Given as goal

-- the names of the rules so far stand last
abbrev pub invariant-loop-place : goal.invariant-loop-place
invariant-loop-place l = l.ids.items ≡ l.initial.ids.items ++ ids_from l.policy 0 l.place
