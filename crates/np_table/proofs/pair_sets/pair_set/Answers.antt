use Rattle.std.proofs.Common.{Some, refl, ap, sym, ◌∙◌}
use Rattle.np_fold.specs.Prelude.{folding_of}
use Rattle.np_table.proofs.SideLemmas.{every_pod-of, ends-are, ends-both, ends-pass}
use Rattle.np_table.proofs.pair_sets.pair_set.Goals as goal

pub set_between-requires : goal.set_between-requires
set_between-requires c =
    let both = ends-are c.args.folded.now c.args.source c.args.destination c.in-Some.ends (sym c.in-Some.is ∙ c.in_ok-ends.ensures.ends) in
    ends-both c.args.folded.now c.args.source c.args.destination c.in-Some.ends both.1

pub returns-clause-set : goal.returns-clause-set
returns-clause-set c =
    let both = ends-are c.args.folded.now c.args.source c.args.destination c.in-Some.ends (sym c.in-Some.is ∙ c.in_ok-ends.ensures.ends) in
    rw both.0 (ap (λ set. Some set) (c.in_ok-set.ensures ∙ ends-pass c.args.folded.now c.args.source c.args.destination c.in-Some.ends c.args.family both.0 both.1))

pub returns-clause-every_pod : goal.returns-clause-every_pod
returns-clause-every_pod c =
    let both = ends-are c.args.folded.now c.args.source c.args.destination c.in-Some.ends (sym c.in-Some.is ∙ c.in_ok-ends.ensures.ends) in
    every_pod-of c.args.folded.now (folding_of c.args.folded.now) c.args.source c.args.destination c.args.family c.in_ok-set.set refl c.requires.source c.requires.destination
    (c.in_ok-set.ensures ∙ ends-pass c.args.folded.now c.args.source c.args.destination c.in-Some.ends c.args.family both.0 both.1) c.rules_of_pair.ensures.lawful
