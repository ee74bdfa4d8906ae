use Rattle.std.proofs.Common.{sym, ap, ◌∙◌, option_map}
use Rattle.np_check.proofs.PairLemmas.{in_family}
use Rattle.np_check.specs.Prelude.{Work, counterexample_at}
use Rattle.np_check.proofs.pairs.first_in.Goals as goal

pub returns-in_default-clause-counterexample : goal.returns-in_default-clause-counterexample
returns-in_default-clause-counterexample c =
    ap (option_map (counterexample_at (Work c.args.source) (Work c.args.destination) c.args.family)) (sym c.in_default.is)
    ∙ in_family c.args.checker.now c.args.claim.now.wanted c.args.claim.now.conns.now c.in_ok-passes.passes c.args.source c.args.destination c.args.family c.in_ok-spot.field-0
    c.in_ok-passes.ensures.set c.in_ok-spot.ensures

pub returns-clause-counterexample : goal.returns-clause-counterexample
returns-clause-counterexample c =
    ap (option_map (counterexample_at (Work c.args.source) (Work c.args.destination) c.args.family)) (sym c.in-Some.is)
    ∙ in_family c.args.checker.now c.args.claim.now.wanted c.args.claim.now.conns.now c.in_ok-passes.passes c.args.source c.args.destination c.args.family c.in_ok-spot.field-0
    c.in_ok-passes.ensures.set c.in_ok-spot.ensures
