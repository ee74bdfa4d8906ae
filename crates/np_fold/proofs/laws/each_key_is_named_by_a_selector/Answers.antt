use Rattle.np_fold.proofs.InForceLemmas.{named-somewhere}
use Rattle.np_fold.proofs.laws.each_key_is_named_by_a_selector.Goals as goal

pub returns : goal.returns
returns c = λ lists key is. named-somewhere key lists is
