use Rattle.np_conns.proofs.OneText.{conns_text-injective}
use Rattle.np_conns.proofs.laws.one_text_has_one_set.Goals as goal

pub returns : goal.returns
returns c = conns_text-injective
