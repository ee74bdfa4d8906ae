use Rattle.np_meaning.proofs.ValidServiceReads.{ingress-valid}
use Rattle.np_meaning.proofs.valid_laws.valid_ingresses_are_read.Goals as goal

pub returns : goal.returns
returns c = ingress-valid
