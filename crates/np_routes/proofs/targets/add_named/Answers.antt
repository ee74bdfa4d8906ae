use Rattle.std.proofs.Common.{◌≡◌, ◌&&◌, true, false, arith, ◌∙◌}
use Rattle.std.proofs.Math.Bool.{or-false}
use Rattle.np_conns.specs.Prelude.{same_proto}
use Rattle.np_routes.specs.Prelude.{Named, Tcp, has_port}
use Rattle.np_routes.proofs.TargetLemmas.{named-added, named-other}
use Rattle.np_routes.proofs.targets.add_named.Goals as goal
use Rattle.np_routes.proofs.targets.add_named.Goals.{then-eq+then-has_name+in_ok-add_number, else-eq, else-eq-via-then-eq+else-has_name, else-eq-via-else-eq}

pub loop-port-preserved : goal.loop-port-preserved
loop-port-preserved c =
    let port = c.port-item.result in
    let before = has_port c.loop-port.targets in
    record {
      numbers = λ number. elim c.if-eq.branch [
        | then-eq+then-has_name+in_ok-add_number w ↦
            let tcp : same_proto port.proto Tcp ≡ true = grind arith in
            let has : before (Named port.name) ≡ true = grind arith in
            rw w.targets-is (named-added (has_port c.args.targets.now) before c.args.ports.now c.loop-port.port-index port number c.loop-port-test.true c.port-item.is
            (c.loop-port.invariant.numbers number) (c.loop-port.invariant.names port.name) (has_port w.add_number.new.self) tcp has w.in_ok-add_number.ensures)
        | else-eq w ↦
            let other : (same_proto port.proto Tcp && before (Named port.name)) ≡ false =
            elim w.else-eq.branch [ else-eq-via-then-eq+else-has_name w' ↦ grind arith | else-eq-via-else-eq w' ↦ grind arith ] in
            rw w.targets-is (named-other (has_port c.args.targets.now) before c.args.ports.now c.loop-port.port-index port number c.loop-port-test.true c.port-item.is
            (c.loop-port.invariant.numbers number) (c.loop-port.invariant.names port.name) other)
      ];
      names = λ name. elim c.if-eq.branch [
        | then-eq+then-has_name+in_ok-add_number w ↦ rw w.targets-is (w.in_ok-add_number.ensures (Named name) ∙ or-false (before (Named name)) ∙ c.loop-port.invariant.names name)
        | else-eq w ↦ rw w.targets-is (c.loop-port.invariant.names name)
      ];
    }
