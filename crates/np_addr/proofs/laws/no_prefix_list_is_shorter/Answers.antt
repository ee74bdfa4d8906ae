use Rattle.np_addr.proofs.OnePrefixList.{no_shorter_list}
use Rattle.np_addr.proofs.laws.no_prefix_list_is_shorter.Goals as goal

pub returns : goal.returns
returns c = no_shorter_list
