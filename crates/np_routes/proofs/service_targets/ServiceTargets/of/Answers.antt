use Rattle.std.proofs.Common.{◌≡◌, ◌&&◌, true, false, arith}
use Rattle.np_base.proofs.Lists.{list_any-next}
use Rattle.np_conns.specs.Prelude.{same_proto}
use Rattle.np_routes.specs.Prelude.{Tcp, asked_port_leads, at_pod, has_own}
use Rattle.np_routes.proofs.PortSetLemmas.{at_pod-none}
use Rattle.np_routes.proofs.TargetLemmas.{port-asked, port-other}
use Rattle.np_routes.proofs.service_targets.ServiceTargets.of.Goals as goal
use Rattle.np_routes.proofs.service_targets.ServiceTargets.of.Goals.{then-eq+then-has_own+in_ok-add_target, else-eq, else-eq-via-then-eq+else-has_own, else-eq-via-else-eq}

pub loop-port-init : goal.loop-port-init
loop-port-init c p number = at_pod-none c.new-targets.result p number c.new-targets.ensures

pub loop-port-preserved : goal.loop-port-preserved
loop-port-preserved c p number =
    let asked = c.args.asked.now in
    let port = c.port-item.result in
    let before = at_pod c.loop-port.targets p number in
    list_any-next (asked_port_leads asked p number) c.items-port-items.result.now c.loop-port.port-index port before (at_pod c.if-eq.targets p number) c.loop-port-test.true c.port-item.is
    (c.loop-port.invariant p number)
    (elim c.if-eq.branch [
      | then-eq+then-has_own+in_ok-add_target w ↦
          let tcp : same_proto port.proto Tcp ≡ true = grind arith in
          let own : has_own asked.ports port ≡ true = grind arith in
          rw w.targets-is (port-asked asked port p number before (at_pod w.add_target.new.targets p number) tcp own (w.in_ok-add_target.ensures p number))
      | else-eq w ↦
          let other : (same_proto port.proto Tcp && has_own asked.ports port) ≡ false =
          elim w.else-eq.branch [ else-eq-via-then-eq+else-has_own w' ↦ grind arith | else-eq-via-else-eq w' ↦ grind arith ] in
          rw w.targets-is (port-other asked port p number before other)
    ])
