use Rattle.std.proofs.Common.{subst}
use Rattle.std.proofs.lemmas.Bool.{OnTrue_at, OnTrue_from}
use Rattle.np_rules.proofs.SameSideLemmas.{decider-same, side-same}
use Rattle.np_rules.specs.Prelude.{IsSameSide, PodEnd, pod_at, pod_view}
use Rattle.np_rules.proofs.same_sides.is_same_side.Goals as goal

pub returns-clause-same : goal.returns-clause-same
returns-clause-same c =
    let lists = c.args.estate.now in
    let d = c.args.direction in
    OnTrue_from c.are_alike.result _ (λ yes.
    subst (λ (p : PodEnd). IsSameSide lists d p (pod_at lists c.args.other)) c.view_at-near.ensures
    (subst (λ (q : PodEnd). IsSameSide lists d (pod_view c.view_at-near.result) q) c.view_at-far.ensures (OnTrue_at yes c.are_alike.ensures)))

pub returns-clause-allows : goal.returns-clause-allows
returns-clause-allows c =
    let lists = c.args.estate.now in
    OnTrue_from c.are_alike.result _ (λ yes far family spot.
    side-same lists c.args.direction (pod_at lists c.args.pod) (pod_at lists c.args.other) (OnTrue_at yes (returns-clause-same c)) far family spot)

pub returns-clause-decides : goal.returns-clause-decides
returns-clause-decides c =
    let lists = c.args.estate.now in
    OnTrue_from c.are_alike.result _ (λ yes far family spot.
    decider-same lists c.args.direction (pod_at lists c.args.pod) (pod_at lists c.args.other) (OnTrue_at yes (returns-clause-same c)) far family spot)
