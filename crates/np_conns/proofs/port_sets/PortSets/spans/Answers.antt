use Rattle.std.proofs.Common.{◌∙◌}
use Rattle.np_conns.proofs.ConnLemmas.{spans_of-by_ranges}
use Rattle.np_conns.proofs.port_sets.PortSets.spans.Goals as goal

pub returns-clause-runs : goal.returns-clause-runs
returns-clause-runs c = spans_of-by_ranges c.args.self.now c.args.proto _ (c.ranges-2.ensures.value ∙ c.ports.ensures) (rw c.ranges-2.ensures.value c.ranges-2.ensures.ascending)
