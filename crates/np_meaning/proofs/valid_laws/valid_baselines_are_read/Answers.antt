use Rattle.np_meaning.proofs.ValidAdminReads.{baseline-valid}
use Rattle.np_meaning.proofs.valid_laws.valid_baselines_are_read.Goals as goal

pub returns : goal.returns
returns c = baseline-valid
