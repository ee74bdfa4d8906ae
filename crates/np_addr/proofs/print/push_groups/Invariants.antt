use Rattle.std.proofs.Common.{◌≡◌, ◌++◌, take, flat_map, codes, string_bytes}
use Rattle.np_addr.specs.Prelude.{group_text}
use Rattle.np_addr.proofs.print.push_groups.Given as goal

-- the groups so far, each behind a colon
abbrev pub invariant-loop-group : goal.invariant-loop-group
invariant-loop-group l =
    string_bytes l.text ≡ string_bytes l.initial.text ++ flat_map (λ group. codes ":" ++ group_text group) (take l.group-index l.others)
