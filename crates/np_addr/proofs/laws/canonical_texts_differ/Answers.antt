use Rattle.np_addr.proofs.CanonicalLemmas.{address_text_injective}
use Rattle.np_addr.proofs.laws.canonical_texts_differ.Goals as goal

pub returns : goal.returns
returns c = address_text_injective
