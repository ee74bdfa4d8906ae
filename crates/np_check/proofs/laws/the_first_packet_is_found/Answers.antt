use Rattle.np_check.proofs.LeastLemmas.{first_broken, nothing_broken}
use Rattle.np_check.proofs.laws.the_first_packet_is_found.Goals as goal

pub returns : goal.returns
returns c = record { first = first_broken; none = nothing_broken }
