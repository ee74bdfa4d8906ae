use Rattle.np_explain.proofs.TextLemmas.{decider_text-one}
use Rattle.np_explain.proofs.laws.one_text_has_one_decider.Goals as goal

pub returns-clause-decider : goal.returns-clause-decider
returns-clause-decider c a b d e well well' same = (decider_text-one a b d e well well' same).0

pub returns-clause-direction : goal.returns-clause-direction
returns-clause-direction c a b d e well well' ruled same = (decider_text-one a b d e well well' same).1 ruled
