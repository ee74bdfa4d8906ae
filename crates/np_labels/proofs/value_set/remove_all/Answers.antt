use Rattle.std.specs.Ordering.{nat_cmp}
use Rattle.std.specs.Cmp.Lexicographic.{slice_cmp}
use Rattle.std.specs.BTreeSet.{contains}
use Rattle.np_labels.proofs.Listed.{less_step}
use Rattle.np_labels.proofs.value_set.remove_all.Goals as goal

pub loop-value-preserved : goal.loop-value-preserved
loop-value-preserved c =
    less_step c.args.listed.now c.loop-value.value-index c.value-item.result c.loop-value-test.true c.value-item.is
    (contains (slice_cmp nat_cmp) c.args.values) (contains (slice_cmp nat_cmp) c.loop-value.values) (contains (slice_cmp nat_cmp) c.remove.new.self)
    c.remove.ensures.updates.0 c.loop-value.invariant
