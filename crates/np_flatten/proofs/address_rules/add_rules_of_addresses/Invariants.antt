use Rattle.std.proofs.Common.{◌≡◌, ◌++◌, take}
use Rattle.np_flatten.proofs.address_rules.add_rules_of_addresses.Given as goal
use Rattle.np_flatten.specs.Prelude.{rules_of_addresses}

-- the rules have those of the ranges so far
abbrev pub invariant-loop-row : goal.invariant-loop-row
invariant-loop-row l = l.rules ≡ l.fn.rules ++ rules_of_addresses (take l.row-index l.rows)
