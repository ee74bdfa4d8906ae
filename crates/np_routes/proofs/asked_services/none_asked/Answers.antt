use Rattle.std.proofs.Common.{refl}
use Rattle.np_routes.proofs.AskedLemmas.{none-more, services-more}
use Rattle.np_routes.proofs.asked_services.none_asked.Goals as goal

pub loop-service-preserved : goal.loop-service-preserved
loop-service-preserved c = record {
  same = services-more c.args.listed.now c.loop-service.service-index c.loop-service.made.items c.push.new.self.items _ c.service-item.result c.loop-service-test.true c.service-item.is refl
      c.in_ok-push.ensures.items c.loop-service.invariant.same;
  none = λ p number. none-more c.loop-service.made.items c.push.new.self.items _ p number c.in_ok-push.ensures.items c.new.ensures (c.loop-service.invariant.none p number);
}
