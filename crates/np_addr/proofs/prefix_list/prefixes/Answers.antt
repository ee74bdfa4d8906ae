use Rattle.np_addr.proofs.RightPrefixes.{prefixes_of-well}
use Rattle.np_addr.proofs.prefix_list.prefixes.Goals as goal

pub returns-clause-well : goal.returns-clause-well
returns-clause-well c =
    rw (c.from_vec.ensures, c.in_ok-push_ranges-2.ensures, c.in_ok-push_ranges.ensures, c.new-blocks.ensures.items, c.ranges-2.ensures.value, c.ranges-3.ensures.value)
    (prefixes_of-well c.args.set.now)
