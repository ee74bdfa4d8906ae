use Rattle.np_conns.proofs.ConnLemmas.{empty_by_protocols}
use Rattle.np_conns.proofs.port_sets.PortSetsCells.is_empty.Goals as goal

pub returns-clause-answer : goal.returns-clause-answer
returns-clause-answer c =
    rw (← c.self.view_is) (empty_by_protocols _ _ _ _ c.is_empty-tcp.ensures.answer c.is_empty-udp.ensures.answer c.is_empty-sctp.ensures.answer)
