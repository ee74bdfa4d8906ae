use Rattle.std.proofs.Common.{ℕ, not, slice_index, refl, sym, ap, ◌∙◌}
use Rattle.std.proofs.lemmas.Bool.{not-true}
use Rattle.np_fold.specs.Prelude.{Folding, folding_of}
use Rattle.np_kinds.proofs.KindNumbers.{kind-there}
use Rattle.np_kinds.proofs.ReachLemmas.{silent-pair}
use Rattle.np_kinds.proofs.kind_reach.KindReach.is_silent.Goals as goal
use Rattle.np_kinds.specs.Prelude.{may_pass}

pub kind_of-near-requires : goal.kind_of-near-requires
kind_of-near-requires c = rw c.workloads-workloads.ensures.value (kind-there c.args.folded.now (folding_of c.args.folded.now) c.args.source refl c.requires.source)

pub kind_of-far-requires : goal.kind_of-far-requires
kind_of-far-requires c = rw c.workloads-workloads.ensures.value (kind-there c.args.folded.now (folding_of c.args.folded.now) c.args.destination refl c.requires.destination)

pub returns-clause-known : goal.returns-clause-known
returns-clause-known c =
    ap not (c.may_pass.ensures ∙ ap (λ (near : ℕ). may_pass c.args.self.now near c.kind_of-far.result)
    (c.kind_of-near.ensures ∙ ap (λ (folding : Folding). slice_index folding.kinds c.args.source) c.workloads-workloads.ensures.value)
    ∙ ap (may_pass c.args.self.now (slice_index (folding_of c.args.folded.now).kinds c.args.source))
    (c.kind_of-far.ensures ∙ ap (λ (folding : Folding). slice_index folding.kinds c.args.destination) c.workloads-workloads.ensures.value))

pub returns-clause-silent : goal.returns-clause-silent
returns-clause-silent c = λ told family spot.
    silent-pair c.args.folded.now c.workloads-workloads.result.now c.args.self.now c.args.source c.args.destination c.kind_of-near.result c.kind_of-far.result family spot
    c.workloads-workloads.ensures.value c.requires.reach c.workloads-workloads.ensures.lawful c.requires.source c.requires.destination c.kind_of-near.ensures c.kind_of-far.ensures
    (sym c.may_pass.ensures ∙ not-true c.may_pass.result told)
