use Rattle.std.proofs.Common.{◌≡◌, false}
use Rattle.std.specs.List.{list_any}
use Rattle.np_classes.specs.Classes.{places}
use Rattle.np_flatten.proofs.differ.differ_at_some.Given as goal
use Rattle.np_flatten.specs.Prelude.{differ_at}

-- at none of the workloads so far do they differ
abbrev pub invariant-loop-third : goal.invariant-loop-third
invariant-loop-third l = record {
  same : l.passing ≡ l.fn.passing;
  none : list_any (differ_at l.fn.passing l.a l.b) (places l.third) ≡ false;
}
