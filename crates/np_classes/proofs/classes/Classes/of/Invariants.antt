use Rattle.np_classes.specs.Noted.{HoldsClasses}
use Rattle.np_classes.proofs.classes.Classes.of.Given as goal

-- what is noted is of the keys so far
abbrev pub invariant-loop-key : goal.invariant-loop-key
invariant-loop-key g l = HoldsClasses g.K.Ord.cmp l.yielded l.known l.firsts l.numbers
