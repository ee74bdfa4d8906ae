use Rattle.std.proofs.Common.{◌≡◌, ◌≤◌}
use Rattle.std.specs.List.{count_by, range_with_len}
use Rattle.np_reading.specs.Prelude.{is_left_out}
use Rattle.np_reading.proofs.left_out.count_left_out.Given as goal

-- those among the items so far are counted
abbrev pub invariant-loop-place : goal.invariant-loop-place
invariant-loop-place l = record {
  count : l.count ≡ count_by (is_left_out l.items l.why) (range_with_len 0 l.place);
  few : l.count ≤ l.place;
}
