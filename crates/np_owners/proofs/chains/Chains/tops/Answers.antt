use Rattle.std.proofs.Common.{◌<◌, ℕ, length, refl, ◌∙◌}
use Rattle.std.proofs.Math.Nat.{zero-add}
use Rattle.std.proofs.lemmas.List.FromFn.{map-range_with_len_more}
use Rattle.std.proofs.lemmas.List.Elements.{All-push}
use Rattle.np_owners.specs.Prelude.{top}
use Rattle.np_owners.proofs.chains.Chains.tops.Goals as goal

pub loop-place-preserved : goal.loop-place-preserved
loop-place-preserved c =
    let ups = c.args.self.now in
    let place = c.loop-place.place in
    let same = c.deref.ensures.value ∙ c.self.view_is in
    let so_far = c.loop-place.invariant in
    rw c.in_ok-push.ensures.items (
      rw (map-range_with_len_more (top ups) 0 place place (zero-add place), so_far.0, c.climb.ensures.exact, same) refl,
      All-push (λ (p : ℕ). p < length ups) c.loop-place.made.items c.climb.result so_far.1 (rw same at c.climb.ensures.within),
    )
