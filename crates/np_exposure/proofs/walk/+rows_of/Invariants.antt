use Rattle.std.proofs.Common.{◌≤◌, length, IsTrue}
use Rattle.np_exposure.proofs.WalkLemmas.{IsFilled}
use Rattle.np_exposure.specs.Prelude.{AreWalked, IsState, StandForAll, are_at}
use Rattle.np_exposure.proofs.walk.+rows_of.Given as goal

-- what those that wait make of the rows of the requirements that are left, are the rows of all
abbrev pub invariant-loop-first : goal.invariant-loop-first
invariant-loop-first l = record {
  state : IsState l.case.state.items;
  keys : IsTrue (are_at l.case.state.items l.more);
  shorter : length l.more ≤ length l.fn.requirements;
  filled : IsFilled l.rules l.pending l.more l.case.state.items (AreWalked l.rules l.fn.requirements l.fn.case.state.items);
  net : StandForAll l.rules l.case.state.items l.case.net;
}

abbrev pub decreases-loop-first : goal.decreases-loop-first
decreases-loop-first l = length l.more

abbrev pub decreases-rows_of : goal.decreases-rows_of
decreases-rows_of l = length l.requirements.now
