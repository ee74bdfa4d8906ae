use Rattle.std.proofs.Common.{◌≡◌, ap}
use Rattle.np_tiers.specs.Prelude.{Base, Free, admin_place}
use Rattle.np_tiers.proofs.FirstMatch.{carved_more, carved_all}
use Rattle.np_tiers.proofs.Places.{lower_place}
use Rattle.np_tiers.proofs.Tiers.{base_tier}
use Rattle.np_tiers.proofs.carving.carve_base.Goals as goal

pub loop-place-preserved : goal.loop-place-preserved
loop-place-preserved g c =
    let pass = c.args.pass in
    let place = c.loop-place.place in
    rw c.in_ok-append.ensures.items
    (carved_more g.S.Cells.has g.S.Cells.IsWell (base_tier pass) (λ mark. admin_place mark ≡ pass) (g.S.Cells.has c.args.within) c.args.parts.now (λ mark. mark ≡ Base pass place) place
    (λ m is. (ap admin_place is, ap lower_place is)) c.index-parts-place.result c.loop-place.left c.in_ok-hit.hit c.in_ok-left.left c.loop-place.entries.items c.in_ok-found.found.items
    c.loop-place-test.true c.index-parts-place.is c.in_ok-hit.ensures.members c.in_ok-left.ensures.members c.loop-place.invariant c.in_ok-found.ensures)

pub returns : goal.returns
returns g c =
    let pass = c.args.pass in
    rw c.in_ok-append-2.ensures.items
    (carved_all g.S.Cells.has g.S.Cells.IsWell (base_tier pass) (λ mark. admin_place mark ≡ pass) (g.S.Cells.has c.args.within) c.args.parts.now (λ mark. mark ≡ Free pass)
    (λ mark. admin_place mark ≡ pass) c.loop-place.place (λ m is. is)
    (λ m is. (ap admin_place is, ap lower_place is)) c.loop-place.left c.loop-place.entries.items c.in_ok-rest.rest.items c.loop-place-test.false c.loop-place.invariant c.in_ok-rest.ensures)
