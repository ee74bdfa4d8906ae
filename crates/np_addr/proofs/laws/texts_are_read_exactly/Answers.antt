use Rattle.np_addr.proofs.GrammarLemmas.{address_text_iff, cidr_text_iff}
use Rattle.np_addr.proofs.laws.texts_are_read_exactly.Goals as goal

pub returns : goal.returns
returns c = record { addresses = address_text_iff; blocks = cidr_text_iff }
