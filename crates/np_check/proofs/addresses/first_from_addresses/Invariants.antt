use Rattle.std.proofs.Common.{◌≡◌, take}
use Rattle.np_check.specs.Prelude.{At, Work, addresses_of, counterexample_between, first_given}
use Rattle.np_check.proofs.addresses.first_from_addresses.Given as goal

-- what is kept is the first to the workloads so far
abbrev pub invariant-loop-destination : goal.invariant-loop-destination
invariant-loop-destination l = record {
  first : l.first ≡ first_given (λ address. first_given (λ destination. counterexample_between l.initial.checker l.claim.wanted l.claim.conns.now (At address) (Work destination))
      (take l.destination-index l.destinations)) (addresses_of l.block);
  same : l.checker ≡ l.initial.checker;
}
