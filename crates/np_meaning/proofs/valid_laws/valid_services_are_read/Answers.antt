use Rattle.np_meaning.proofs.ValidServiceReads.{service-valid}
use Rattle.np_meaning.proofs.valid_laws.valid_services_are_read.Goals as goal

pub returns : goal.returns
returns c = service-valid
