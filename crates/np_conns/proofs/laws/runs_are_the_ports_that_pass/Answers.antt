use Rattle.np_conns.proofs.RunLemmas.{runs-hold, runs-ascend, runs-by_members}
use Rattle.np_conns.proofs.laws.runs_are_the_ports_that_pass.Goals as goal

pub returns : goal.returns
returns c = record { members = runs-hold; ascending = runs-ascend; no_other = runs-by_members }
