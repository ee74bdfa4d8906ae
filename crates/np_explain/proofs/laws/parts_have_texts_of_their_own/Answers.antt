use Rattle.np_explain.proofs.NamedLemmas.{parts-well, texts-apart}
use Rattle.np_explain.proofs.laws.parts_have_texts_of_their_own.Goals as goal

pub returns-clause-named : goal.returns-clause-named
returns-clause-named c = parts-well

pub returns-clause-texts : goal.returns-clause-texts
returns-clause-texts c = texts-apart
