use Rattle.np_reach.proofs.ReachLemmas.{out_of_reach}
use Rattle.np_reach.proofs.laws.no_port_out_of_reach.Goals as goal

pub returns : goal.returns
returns c = out_of_reach
