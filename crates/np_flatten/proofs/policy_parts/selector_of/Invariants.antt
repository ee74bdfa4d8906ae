use Rattle.std.proofs.Common.{◌≡◌, map, take}
use Rattle.np_flatten.proofs.policy_parts.selector_of.Given as goal
use Rattle.np_flatten.specs.Prelude.{requirement_of_key}

-- what is asked of the keys so far
abbrev pub invariant-loop-key : goal.invariant-loop-key
invariant-loop-key l = l.requirements ≡ map (requirement_of_key l.labels) (take l.key-index l.keys)
