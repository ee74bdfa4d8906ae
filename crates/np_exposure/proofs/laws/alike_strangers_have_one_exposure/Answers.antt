use Rattle.np_exposure.proofs.ExposureLemmas.{exposes-same}
use Rattle.np_exposure.proofs.laws.alike_strangers_have_one_exposure.Goals as goal

pub returns : goal.returns
returns c = λ side s t spot first second agree. exposes-same s t first second side spot agree
