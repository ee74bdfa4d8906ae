use Rattle.std.specs.Ordering.{nat_cmp}
use Rattle.std.specs.Cmp.Lexicographic.{slice_cmp}
use Rattle.std.specs.BTreeMap.{get}
use Rattle.np_labels.proofs.MeetsAll.{demands_step}
use Rattle.np_labels.proofs.possibility.demands_of.Goals as goal

pub loop-requirement-preserved : goal.loop-requirement-preserved
loop-requirement-preserved c =
    demands_step c.args.all.now c.loop-requirement.requirement-index c.requirement-item.result c.loop-requirement-test.true c.requirement-item.is
    (get (slice_cmp nat_cmp) c.loop-requirement.made) (get (slice_cmp nat_cmp) c.remove-before.new.self) (get (slice_cmp nat_cmp) c.insert.new.self) c.in_ok-demand.demand
    c.remove-before.ensures.updates.0 (rw c.in_ok-copy.ensures at c.in_ok-insert.ensures.updates.0) (rw c.remove-before.ensures.value at c.in_ok-demand.ensures) c.loop-requirement.invariant
