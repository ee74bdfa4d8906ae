use Rattle.np_addr.proofs.OnePrefixList.{one_right_list}
use Rattle.np_addr.proofs.laws.one_prefix_list_is_right.Goals as goal

pub returns : goal.returns
returns c = one_right_list
