use Rattle.std.proofs.Common.{◌≡◌, ◌+◌, ◌*◌}
use Rattle.np_rules.specs.Prelude.{side_rule_count}
use Rattle.np_table.proofs.pair_sets.count_ends.Given as goal

-- both are counted once for each of the families so far
abbrev pub invariant-loop-family : goal.invariant-loop-family
invariant-loop-family g l = l.steps ≡ l.initial.steps + l._family-index * (side_rule_count l.sender + side_rule_count l.receiver)
