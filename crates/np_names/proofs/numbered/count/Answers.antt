use Rattle.np_names.proofs.CountLemmas.{HoldsCounts-push}
use Rattle.np_names.proofs.numbered.count.Goals as goal

pub returns-clause-counts : goal.returns-clause-counts
returns-clause-counts c earlier = HoldsCounts-push earlier c.args.text.now c.in_ok-copy.field-0 c.noted-before.result c.args.counts.now.entries c.insert.new.self.entries c.in_ok-copy.ensures
    c.noted-before.ensures c.in_ok-insert.ensures.updates.0
