use Rattle.np_meaning.proofs.EndTexts.{one-end}
use Rattle.np_meaning.proofs.text_laws.one_text_has_one_end.Goals as goal

pub returns : goal.returns
returns c = one-end
