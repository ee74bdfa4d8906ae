use Rattle.std.proofs.lemmas.Bool.{OnTrue_at, OnTrue_from}
use Rattle.np_exposure.proofs.SameSideLemmas.{mentions-same, rows-one}
use Rattle.np_exposure.proofs.same_sides.is_same_side.Goals as goal

pub returns-clause-mentions : goal.returns-clause-mentions
returns-clause-mentions c =
    OnTrue_from c.is_same_side.result _ (λ yes. mentions-same c.args.estate.now c.args.direction c.args.pod c.args.other (OnTrue_at yes c.is_same_side.ensures.same))

pub returns-clause-rows : goal.returns-clause-rows
returns-clause-rows c =
    OnTrue_from c.is_same_side.result _ (λ yes. rows-one c.args.estate.now c.args.direction c.args.pod c.args.other (OnTrue_at yes c.is_same_side.ensures.same))
