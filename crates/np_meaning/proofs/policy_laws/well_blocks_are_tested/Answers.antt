use Rattle.np_meaning.proofs.BlockTests.{cidr_test-iff}
use Rattle.np_meaning.proofs.policy_laws.well_blocks_are_tested.Goals as goal

pub returns : goal.returns
returns c = cidr_test-iff
