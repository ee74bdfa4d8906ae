use Rattle.np_table.proofs.RangeOneList.{walk-agrees}
use Rattle.np_table.proofs.range_laws.equal_tests_have_one_list.Goals as goal

pub returns : goal.returns
returns c = walk-agrees
