use Rattle.std.proofs.Common.{◌≡◌, drop}
use Rattle.np_check.specs.Prelude.{AreSettled, Work, counterexample_from, first_given}
use Rattle.np_check.proofs.checking.first_from_works.Given as goal

-- the first from those that are left is the first from all
abbrev pub invariant-loop-source : goal.invariant-loop-source
invariant-loop-source l = record {
  left : first_given (λ source. counterexample_from l.initial.checker l.claim.wanted l.claim.conns.now l.ends (Work source)) (drop l.source-index l.sources)
      ≡ first_given (λ source. counterexample_from l.initial.checker l.claim.wanted l.claim.conns.now l.ends (Work source)) l.sources;
  same : l.checker ≡ l.initial.checker;
  settled : AreSettled l.checker l.claim.wanted l.claim.conns.now l.settled.keys;
}
