use Rattle.np_reading.proofs.KnownLemmas.{KnowsLabels-more}
use Rattle.np_reading.proofs.namespaces.shared_labels.Goals as goal

pub returns-clause-known : goal.returns-clause-known
returns-clause-known c = KnowsLabels-more c.args.items.now c.args.known.now c.insert.new.self c.args.name.now c.requires.known
    (rw (c.in_ok-copy.ensures, c.in_ok-share.ensures, c.in_ok-labels.ensures, c.in_ok-namespace_labels.ensures) at c.in_ok-insert.ensures.updates.0)
