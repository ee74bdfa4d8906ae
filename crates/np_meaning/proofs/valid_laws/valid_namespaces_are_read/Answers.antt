use Rattle.np_meaning.proofs.ValidNamespaceReads.{namespace-valid}
use Rattle.np_meaning.proofs.valid_laws.valid_namespaces_are_read.Goals as goal

pub returns : goal.returns
returns c = namespace-valid
