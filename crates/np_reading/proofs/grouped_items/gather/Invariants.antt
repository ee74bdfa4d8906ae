use Rattle.std.proofs.Common.{◌≡◌, length}
use Rattle.np_reading.specs.steps.Gathering as spec
use Rattle.np_reading.proofs.grouped_items.gather.Given as goal

-- what the items so far give is gathered, and they are counted
abbrev pub invariant-loop-item : goal.invariant-loop-item
invariant-loop-item l = record {
  gathered : spec.seen l.gathered ≡ spec.with_pairs spec.nothing 1 l.yielded;
  counted : l.number ≡ length l.yielded;
}
