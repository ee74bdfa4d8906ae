use Rattle.np_table.proofs.RangeCounts.{one_range}
use Rattle.np_table.proofs.range_laws.each_number_is_in_one_range.Goals as goal

pub returns : goal.returns
returns c = one_range
