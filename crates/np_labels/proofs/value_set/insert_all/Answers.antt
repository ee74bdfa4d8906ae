use Rattle.std.specs.Ordering.{nat_cmp}
use Rattle.std.specs.Cmp.Lexicographic.{slice_cmp}
use Rattle.std.specs.BTreeSet.{contains}
use Rattle.np_labels.proofs.Listed.{more_step}
use Rattle.np_labels.proofs.value_set.insert_all.Goals as goal

pub loop-value-preserved : goal.loop-value-preserved
loop-value-preserved c =
    more_step c.args.listed.now c.loop-value.value-index c.in_ok-copy.field-0 c.loop-value-test.true (rw c.in_ok-copy.ensures c.value-item.is)
    (contains (slice_cmp nat_cmp) c.args.values) (contains (slice_cmp nat_cmp) c.loop-value.values) (contains (slice_cmp nat_cmp) c.insert.new.self)
    c.in_ok-insert.ensures.updates.0 c.loop-value.invariant
