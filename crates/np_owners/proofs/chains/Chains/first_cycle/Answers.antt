use Rattle.std.proofs.Common.{◌≡◌, ◌<◌, length, ◌+◌, ◌-◌, false, arith, sym, ap, ◌∙◌}
use Rattle.np_owners.specs.Prelude.{owns_itself}
use Rattle.np_owners.proofs.ChainPlaces.{find_past}
use Rattle.np_owners.proofs.chains.Chains.first_cycle.Goals as goal

pub loop-place-preserved : goal.loop-place-preserved
loop-place-preserved c =
    let ups = c.args.self.now in
    let place = c.loop-place.place in
    let long = c.len-place-end.ensures ∙ c.self.inside.ups.ok.0 ∙ ap length c.self.view_is in
    let within : place < length ups = rw long at c.loop-place-test.true in
    let passed : owns_itself ups place ≡ false = rw (← c.self.view_is, ← c.deref.ensures.value) (sym c.if-comes_back.ensures) in
    sym (find_past (owns_itself ups) place (length ups - place) (length ups - (place + 1)) (omega (arith, within)) passed) ∙ c.loop-place.invariant
