use Rattle.np_exposure.proofs.FirstStrangerLemmas.{IsWitness-of}
use Rattle.np_exposure.proofs.witness.stranger_of.Goals as goal

pub returns : goal.returns
returns c =
    IsWitness-of c.args.state.now c.requires _ c.new-named.result c.add_pair.new.pairs c.new.result c.new-named.ensures c.in_ok-add_pair.ensures c.new.ensures
    c.in_ok-namespace.ensures c.in_ok-labels.ensures
