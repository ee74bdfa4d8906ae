use Rattle.np_conns.proofs.ConnLemmas.{same_by_protocols}
use Rattle.np_conns.proofs.port_sets.PortSetsCells.same.Goals as goal

pub returns-clause-answer : goal.returns-clause-answer
returns-clause-answer c =
    rw (← c.self.view_is, ← c.other.view_is) (same_by_protocols _ _ _ _ _ c.same-tcp.ensures.answer c.same-udp.ensures.answer c.same-sctp.ensures.answer)
