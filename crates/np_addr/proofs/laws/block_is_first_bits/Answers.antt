use Rattle.np_addr.proofs.SubsetLemmas.{first_bits}
use Rattle.np_addr.proofs.laws.block_is_first_bits.Goals as goal

pub returns : goal.returns
returns c = first_bits
