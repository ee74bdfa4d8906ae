use Rattle.std.proofs.Common.{◌≡◌, drop}
use Rattle.np_check.specs.Prelude.{Work, counterexample_in, first_given}
use Rattle.np_check.proofs.pairs.first_between.Given as goal

-- the first in the families that are left is the first in all
abbrev pub invariant-loop-family : goal.invariant-loop-family
invariant-loop-family l = record {
  left : first_given (counterexample_in l.initial.checker l.claim.wanted l.claim.conns.now (Work l.source) (Work l.destination)) (drop l.family-index l.family-items)
      ≡ first_given (counterexample_in l.initial.checker l.claim.wanted l.claim.conns.now (Work l.source) (Work l.destination)) l.family-items;
  same : l.checker ≡ l.initial.checker;
}
