use Rattle.np_routes.proofs.ServiceLemmas.{place-next}
use Rattle.np_routes.proofs.services.Services.of.Goals as goal
use Rattle.np_routes.specs.Prelude.{place_at}

pub loop-place-preserved : goal.loop-place-preserved
loop-place-preserved c namespace name =
    place-next c.args.listed.now c.loop-place.place c.index-listed-place.result namespace name (place_at c.loop-place.places namespace name)
    (place_at c.put.new.places namespace name) c.loop-place-test.true c.index-listed-place.is (c.loop-place.invariant namespace name) (c.in_ok-put.ensures namespace name)
