use Rattle.std.proofs.Common.{◌≡◌, ◌≤◌, drop, length}
use Rattle.std.specs.Cmp.Lexicographic.{slice_cmp}
use Rattle.np_fold.specs.Order as spec
use Rattle.np_fold.proofs.order.compare_port_lists.Given as goal

-- those that are left compare as all do
abbrev pub invariant-loop-place : goal.invariant-loop-place
invariant-loop-place l = record {
  there : l.place ≤ length l.others;
  rest : slice_cmp spec.compare_ports (drop l.place l.ports) (drop l.place l.others) ≡ slice_cmp spec.compare_ports l.ports l.others;
}
