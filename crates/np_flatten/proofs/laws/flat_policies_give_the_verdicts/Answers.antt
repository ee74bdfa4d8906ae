use Rattle.np_flatten.proofs.FlatVerdicts.{addresses-same, pods-same}
use Rattle.np_flatten.proofs.laws.flat_policies_give_the_verdicts.Goals as goal

pub returns-clause-pods : goal.returns-clause-pods
returns-clause-pods c = pods-same

pub returns-clause-addresses : goal.returns-clause-addresses
returns-clause-addresses c = addresses-same
