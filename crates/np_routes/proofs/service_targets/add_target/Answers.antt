use Rattle.std.proofs.Common.{◌∙◌}
use Rattle.std.proofs.lemmas.Result.{on_ok_weaker}
use Rattle.np_routes.specs.Prelude.{Number}
use Rattle.np_routes.proofs.PortSetLemmas.{at_pod-added}
use Rattle.np_routes.proofs.TargetLemmas.{target-headless, target-own}
use Rattle.np_routes.proofs.service_targets.add_target.Goals as goal

pub returns-then-service : goal.returns-then-service
returns-then-service c = on_ok_weaker c.add_number.result (λ added p number. at_pod-added c.args.targets.now c.add_number.new.self (Number c.args.port.now.port) p number added
    ∙ target-headless c.args.targets.now c.args.service.now c.args.port.now p number c.if-service.true) c.add_number.ensures

pub returns-else-service : goal.returns-else-service
returns-else-service c = on_ok_weaker c.add.result (λ added p number. at_pod-added c.args.targets.now c.add.new.self c.args.port.now.target p number added
    ∙ target-own c.args.targets.now c.args.service.now c.args.port.now p number c.if-service.false) c.add.ensures
