use Rattle.std.proofs.Common.{◌≡◌, ◌<◌, ◌≤◌, length, get_or, Some, None}
use Rattle.np_tiers.specs.Prelude.{admin_place}
use Rattle.np_tiers.proofs.FirstMatch.{carved_more, carved_all}
use Rattle.np_tiers.proofs.Tiers.{admin_tier}
use Rattle.np_tiers.proofs.carving.carve_admin.Goals as goal

pub loop-place-preserved : goal.loop-place-preserved
loop-place-preserved g c =
    let layer = c.args.layer.now in
    let place = c.loop-place.place in
    let inside : place < length layer.admin = rw c.items-part-items.ensures at c.loop-place-test.true in
    let read : c.part-item.result ≡ get_or layer.admin place c.part-item.result = rw c.items-part-items.ensures at c.part-item.is in
    rw c.in_ok-append.ensures.items
    (carved_more g.S.Cells.has g.S.Cells.IsWell (admin_tier layer) (λ mark. Unit {0}) (g.S.Cells.has c.args.within) layer.admin (λ mark. admin_place mark ≡ Some place) place
    (λ m is. (tt, is)) c.part-item.result c.loop-place.left c.in_ok-hit.hit c.in_ok-left.left c.loop-place.entries.items c.in_ok-found.found.items inside read c.in_ok-hit.ensures.members
    c.in_ok-left.ensures.members c.loop-place.invariant c.in_ok-found.ensures)

pub returns : goal.returns
returns g c =
    let layer = c.args.layer.now in
    let past : length layer.admin ≤ c.loop-place.place = rw c.items-part-items.ensures at c.loop-place-test.false in
    rw c.in_ok-append-2.ensures.items
    (carved_all g.S.Cells.has g.S.Cells.IsWell (admin_tier layer) (λ mark. Unit {0}) (g.S.Cells.has c.args.within) layer.admin (λ mark. admin_place mark ≡ None) (λ mark. Unit {0}) c.loop-place.place
    (λ m is. tt) (λ m is. (tt, is)) c.loop-place.left c.loop-place.entries.items c.in_ok-rest.rest.items past c.loop-place.invariant c.in_ok-rest.ensures)
