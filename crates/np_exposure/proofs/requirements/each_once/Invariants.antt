use Rattle.std.proofs.Common.{◌≡◌}
use Rattle.np_exposure.specs.Prelude.{each_once}
use Rattle.np_exposure.proofs.requirements.each_once.Given as goal

abbrev pub invariant-loop-mention : goal.invariant-loop-mention
invariant-loop-mention l = l.made.items ≡ each_once l.yielded
