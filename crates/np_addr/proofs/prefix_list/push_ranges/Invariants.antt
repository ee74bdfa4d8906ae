use Rattle.std.proofs.Common.{◌≡◌, ◌++◌, take, flat_map}
use Rattle.np_addr.specs.Prelude.{range_prefixes}
use Rattle.np_addr.proofs.prefix_list.push_ranges.Given as goal

-- the blocks of the ranges so far
abbrev pub invariant-loop-range : goal.invariant-loop-range
invariant-loop-range g l =
    l.blocks.items ≡ l.initial.blocks.items ++ flat_map (λ range. range_prefixes l.family (record { lo = g.P.Point.number_of range.lo; hi = g.P.Point.number_of range.hi }))
    (take l.range-index l.ranges)
