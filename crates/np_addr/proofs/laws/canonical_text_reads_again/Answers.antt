use Rattle.np_addr.proofs.CanonicalLemmas.{address_of-address_text}
use Rattle.np_addr.proofs.laws.canonical_text_reads_again.Goals as goal

pub returns : goal.returns
returns c = address_of-address_text
