use Rattle.np_check.proofs.SpotLemmas.{first_of_three}
use Rattle.np_check.specs.Prelude.{first_spot}
use Rattle.np_check.proofs.claim.first_spot.Goals as goal

pub returns : goal.returns
unfolding first_spot
returns c = let three = first_of_three c.first_of_proto-tcp.result c.first_of_proto-udp.result c.first_of_proto-sctp.result in cc
