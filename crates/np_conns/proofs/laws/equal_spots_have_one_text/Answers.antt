use Rattle.np_conns.proofs.ConnLemmas.{conns_text-agrees}
use Rattle.np_conns.proofs.laws.equal_spots_have_one_text.Goals as goal

pub returns : goal.returns
returns c = conns_text-agrees
