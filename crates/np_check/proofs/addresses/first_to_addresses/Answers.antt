use Rattle.std.proofs.Common.{Some, sym, ap, ◌∙◌, option_map}
use Rattle.np_check.specs.Prelude.{At, Family, First, Second, Work, counterexample_at, counterexample_between}
use Rattle.np_check.proofs.AddressLemmas.{all_by, counterexample_by}
use Rattle.np_check.proofs.NoneLemmas.{none_of}
use Rattle.np_check.proofs.addresses.first_to_addresses.Goals as goal

pub returns-then-is_empty-clause-counterexample : goal.returns-then-is_empty-clause-counterexample
returns-then-is_empty-clause-counterexample c =
    none_of c.args.block.now (λ address. counterexample_between c.args.checker.now c.args.claim.now.wanted c.args.claim.now.conns.now (Work c.args.source) (At address))
    (λ n. c.if-is_empty.ensures.answer (First n)) (λ n. c.if-is_empty.ensures.answer (Second n))

pub returns-in_default-clause-counterexample : goal.returns-in_default-clause-counterexample
returns-in_default-clause-counterexample c =
    ap (option_map (counterexample_by c.args.source)) (sym c.in_default.is)
    ∙ all_by c.args.checker.now c.args.claim.now.wanted c.args.claim.now.conns.now c.args.source c.args.block.now c.in_ok-broken.field-0 c.in_ok-broken.ensures.broken

pub returns-clause-counterexample : goal.returns-clause-counterexample
returns-clause-counterexample c =
    ap (λ (family : Family). Some (counterexample_at (Work c.args.source) (At c.in-Some.broken.address) family c.in-Some.broken.spot)) c.family_of.ensures
    ∙ ap (option_map (counterexample_by c.args.source)) (sym c.in-Some.is)
    ∙ all_by c.args.checker.now c.args.claim.now.wanted c.args.claim.now.conns.now c.args.source c.args.block.now c.in_ok-broken.field-0 c.in_ok-broken.ensures.broken
