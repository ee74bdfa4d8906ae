use Rattle.std.proofs.Common.{sym, ◌∙◌}
use Rattle.np_base.proofs.Lists.{list_any-next}
use Rattle.np_routes.proofs.PortSetLemmas.{at_pod-none}
use Rattle.np_routes.proofs.TargetLemmas.{targets-served, targets-unserved}
use Rattle.np_routes.proofs.targets.targets_at.Goals as goal
use Rattle.np_routes.proofs.targets.targets_at.Goals.{else-serves, then-serves+in_ok-add_all}
use Rattle.np_routes.specs.Prelude.{at_pod, target_leads}
use Rattle.np_rules.specs.Prelude.{pod_end}

pub loop-one-init : goal.loop-one-init
loop-one-init c number = at_pod-none c.new-made.result (pod_end c.args.pod.now) number c.new-made.ensures

pub loop-one-preserved : goal.loop-one-preserved
loop-one-preserved c number =
    let p = pod_end c.args.pod.now in
    let one = c.one-item.result in
    list_any-next (target_leads p number) c.args.services.now c.loop-one.one-index one (at_pod c.loop-one.made p number) (at_pod c.if-serves.made p number) c.loop-one-test.true c.one-item.is
    (c.loop-one.invariant number)
    (elim c.if-serves.branch [
      | then-serves+in_ok-add_all w ↦ rw w.made-is (targets-served c.loop-one.made one.targets w.add_all.new.self one.service.now p number
          (sym c.serves.ensures ∙ w.if-serves.true) w.in_ok-add_all.ensures)
      | else-serves w ↦ rw w.made-is (targets-unserved c.loop-one.made one.targets one.service.now p number (sym c.serves.ensures ∙ w.if-serves.false))
    ])
