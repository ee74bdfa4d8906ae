use Rattle.std.proofs.Common.{◌≡◌, drop}
use Rattle.std.specs.Prelude.{fold, []}
use Rattle.std.specs.List.{filter_map}
use Rattle.np_reading.specs.Prelude.{admin_policy_in, with_rank}
use Rattle.np_reading.proofs.priorities.by_rank.Given as goal

-- putting in the items that are left gives the ranks of all
abbrev pub invariant-loop-item : goal.invariant-loop-item
invariant-loop-item l = fold with_rank l.ranks.entries (filter_map admin_policy_in (drop l.item-index l.items)) ≡ fold with_rank [] (filter_map admin_policy_in l.items)
