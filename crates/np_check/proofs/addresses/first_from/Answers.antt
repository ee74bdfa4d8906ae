use Rattle.std.proofs.Common.{Some, sym, ap, ◌∙◌, option_map}
use Rattle.np_check.specs.Prelude.{At, Family, Work, counterexample_at}
use Rattle.np_check.proofs.AddressLemmas.{all_to, counterexample_to}
use Rattle.np_check.proofs.addresses.first_from.Goals as goal

pub returns-in_default-clause-counterexample : goal.returns-in_default-clause-counterexample
returns-in_default-clause-counterexample c =
    ap (option_map (counterexample_to c.args.destination)) (sym c.in_default.is)
    ∙ all_to c.args.checker.now c.args.claim.now.wanted c.args.claim.now.conns.now c.args.destination c.args.block.now c.in_ok-broken.field-0 c.in_ok-broken.ensures.broken

pub returns-clause-counterexample : goal.returns-clause-counterexample
returns-clause-counterexample c =
    ap (λ (family : Family). Some (counterexample_at (At c.in-Some.broken.address) (Work c.args.destination) family c.in-Some.broken.spot)) c.family_of.ensures
    ∙ ap (option_map (counterexample_to c.args.destination)) (sym c.in-Some.is)
    ∙ all_to c.args.checker.now c.args.claim.now.wanted c.args.claim.now.conns.now c.args.destination c.args.block.now c.in_ok-broken.field-0 c.in_ok-broken.ensures.broken
