use Rattle.std.proofs.Common.{◌≡◌, ◌++◌}
use Rattle.std.specs.List.{flat_map, range_with_len}
use Rattle.np_unused.specs.Prelude.{rules_of_policy}
use Rattle.np_unused.proofs.all_rules.push_tier.Given as goal

abbrev pub invariant-loop-policy : goal.invariant-loop-policy
invariant-loop-policy l = l.rules ≡ l.initial.rules ++ flat_map (rules_of_policy l.estate l.tier) (range_with_len 0 l.policy)
