use Rattle.np_frame.proofs.OneLineLemmas.{failures-one}
use Rattle.np_frame.proofs.laws.failures_are_told_in_one_line.Goals as goal

pub returns : goal.returns
returns c = failures-one
