-- The ports of a rule that lets a set pass.
use Rattle.std.specs.Prelude.{List, [], ◌++◌, ◌&&◌, ℕ, map, if◌then◌else◌}
use Rattle.np_flatten.specs.Types.{NetPort, Proto, Range, Sctp, Tcp, Udp}
use Rattle.np_conns.specs.Prelude.{Conns, is_whole}
use Rattle.np_model.specs.declared.network_policy.NetPort.TheVariants as port

abbrev pub span_of : Proto → Range ℕ → NetPort
span_of proto run = port.Span proto run.lo run.hi

abbrev pub spans_of_all : Conns → List NetPort
spans_of_all conns = map (span_of Tcp) conns.tcp ++ map (span_of Udp) conns.udp ++ map (span_of Sctp) conns.sctp

-- the runs of a set, of TCP, of UDP and then of SCTP; none of the whole space, which needs no ports
abbrev pub ports_of : Conns → List NetPort
ports_of conns = if is_whole conns.tcp && is_whole conns.udp && is_whole conns.sctp then [] else spans_of_all conns
