use Rattle.std.specs.Ordering.{nat_cmp}
use Rattle.std.specs.Cmp.Lexicographic.{slice_cmp}
use Rattle.std.specs.BTreeSet.{contains}
use Rattle.std.proofs.Common.{sym}
use Rattle.np_labels.proofs.Listed.{kept_step, skipped_step}
use Rattle.np_labels.specs.Prelude.{has_value}
use Rattle.np_labels.proofs.value_set.ValueSet.among.Goals as goal
use Rattle.np_labels.proofs.value_set.ValueSet.among.Goals.{then-has+in_ok-copy+in_ok-insert, else-has}

pub loop-value-preserved : goal.loop-value-preserved
loop-value-preserved c = elim c.if-has.branch [
  | then-has+in_ok-copy+in_ok-insert w ↦ rw w.values-is (
      kept_step c.args.listed.now c.loop-value.value-index w.in_ok-copy.field-0 c.loop-value-test.true (rw w.in_ok-copy.ensures c.value-item.is)
      (has_value c.args.self.now) (contains (slice_cmp nat_cmp) c.loop-value.values) (contains (slice_cmp nat_cmp) w.insert.new.self)
      (rw w.in_ok-copy.ensures (sym w.if-has.ensures)) w.in_ok-insert.ensures.updates.0 c.loop-value.invariant)
  | else-has w ↦ rw w.values-is (
      skipped_step c.args.listed.now c.loop-value.value-index c.value-item.result c.loop-value-test.true c.value-item.is
      (has_value c.args.self.now) (contains (slice_cmp nat_cmp) c.loop-value.values) (sym w.if-has.ensures) c.loop-value.invariant)
]
