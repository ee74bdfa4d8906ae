use Rattle.std.proofs.Common.{length, ◌+◌, ◌-◌, None, nat_eq, arith, ◌∙◌}
use Rattle.std.proofs.lemmas.Bool.{ne_eqb}
use Rattle.np_owners.proofs.Walks.{up_at, up_within, any_step}
use Rattle.np_owners.proofs.chains.comes_back.Goals as goal

pub loop-owner-preserved : goal.loop-owner-preserved
loop-owner-preserved c =
    let ups = c.args.ups.now in
    let so_far = c.loop-owner.invariant in
    let here = up_at ups c.loop-owner.at None so_far.0 ∙ c.in-Some.is in (
      up_within ups c.requires.chains _ _ so_far.0 here,
      rw (
        any_step (λ owner. nat_eq owner c.args.place) ups (length ups - c.loop-owner._owner) (length ups - (c.loop-owner._owner + 1)) c.loop-owner.at c.in-Some.above (omega arith) here,
        ne_eqb _ _ c.if-above-place.false,
      ) at so_far.1,
    )
