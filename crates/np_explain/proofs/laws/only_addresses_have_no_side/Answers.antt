use Rattle.np_explain.proofs.NoSideLemmas.{no_side}
use Rattle.np_explain.proofs.laws.only_addresses_have_no_side.Goals as goal

pub returns : goal.returns
returns c = no_side
