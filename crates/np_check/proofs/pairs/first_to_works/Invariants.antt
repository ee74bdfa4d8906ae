use Rattle.std.proofs.Common.{◌≡◌, drop}
use Rattle.np_check.specs.Prelude.{AreSettled, Work, counterexample_between, first_given}
use Rattle.np_check.proofs.pairs.first_to_works.Given as goal

-- the first to those that are left is the first to all
abbrev pub invariant-loop-destination : goal.invariant-loop-destination
invariant-loop-destination l = record {
  left : first_given (λ destination. counterexample_between l.initial.checker l.claim.wanted l.claim.conns.now (Work l.source) (Work destination)) (drop l.destination-index l.destinations)
      ≡ first_given (λ destination. counterexample_between l.initial.checker l.claim.wanted l.claim.conns.now (Work l.source) (Work destination)) l.destinations;
  same : l.checker ≡ l.initial.checker;
  settled : AreSettled l.checker l.claim.wanted l.claim.conns.now l.settled.keys;
}
