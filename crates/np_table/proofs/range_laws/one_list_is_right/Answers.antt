use Rattle.np_table.proofs.RangeOneList.{right-walk}
use Rattle.np_table.proofs.RangeWalks.{walk-right}
use Rattle.np_table.proofs.range_laws.one_list_is_right.Goals as goal

pub returns-clause-walk : goal.returns-clause-walk
returns-clause-walk c = walk-right

pub returns-clause-one : goal.returns-clause-one
returns-clause-one c = right-walk
