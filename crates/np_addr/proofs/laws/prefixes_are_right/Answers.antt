use Rattle.np_addr.proofs.RightPrefixes.{prefixes_of-right}
use Rattle.np_addr.proofs.laws.prefixes_are_right.Goals as goal

pub returns : goal.returns
returns c = prefixes_of-right
