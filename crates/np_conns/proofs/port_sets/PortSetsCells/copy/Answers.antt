use Rattle.std.proofs.lemmas.Bool.{false≢true}
use Rattle.np_conns.specs.Prelude.{Sctp, Tcp, Udp}
use Rattle.np_conns.proofs.port_sets.PortSetsCells.copy.Goals as goal

pub returns-in_err-copy-clause-succeeds : goal.returns-in_err-copy-clause-succeeds
returns-in_err-copy-clause-succeeds c = λ few. absurd (false≢true (c.in_err-copy.ensures.succeeds (rw (← c.self.view_is) at (few Tcp))))

pub returns-in_err-copy-2-clause-succeeds : goal.returns-in_err-copy-2-clause-succeeds
returns-in_err-copy-2-clause-succeeds c = λ few. absurd (false≢true (c.in_err-copy-2.ensures.succeeds (rw (← c.self.view_is) at (few Udp))))

pub returns-in_err-copy-3-clause-succeeds : goal.returns-in_err-copy-3-clause-succeeds
returns-in_err-copy-3-clause-succeeds c = λ few. absurd (false≢true (c.in_err-copy-3.ensures.succeeds (rw (← c.self.view_is) at (few Sctp))))
