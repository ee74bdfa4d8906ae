use Rattle.np_addr.proofs.CanonicalLemmas.{cidr_of-cidr_text}
use Rattle.np_addr.proofs.laws.printed_block_reads_again.Goals as goal

pub returns : goal.returns
returns c = cidr_of-cidr_text
