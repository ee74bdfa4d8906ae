use Rattle.std.proofs.Common.{arith}
use Rattle.np_unused.proofs.StepLemmas.{Below, all_kinds, all_pods_known, knows_far_grows, more_searched, none_searched, searched_as}
use Rattle.np_unused.proofs.search.search_pods.Goals as goal
use Rattle.np_unused.specs.Prelude.{KnowsFar, KnowsPods}

pub loop-kind-init : goal.loop-kind-init
loop-kind-init c =
    let side = c.args.search.now.side.now in
    none_searched side.lists side.direction (KnowsFar side c.args.search.now.kinds.pods.now c.args.search.now.near c.args.family) c.args.used.now

pub loop-kind-preserved : goal.loop-kind-preserved
loop-kind-preserved c =
    let side = c.args.search.now.side.now in
    let kinds = c.args.search.now.kinds.pods.now in
    let near = c.args.search.now.near in
    more_searched side.lists side.direction (KnowsFar side kinds near c.args.family) (knows_far_grows side kinds near c.args.family) c.loop-kind.kind c.args.used.now c.loop-kind.used
    c.search_kind.new.used c.loop-kind.invariant c.in_ok-search_kind.ensures

pub returns-then-has_all : goal.returns-then-has_all
returns-then-has_all c =
    let side = c.args.search.now.side.now in
    let kinds = c.args.search.now.kinds.pods.now in
    let near = c.args.search.now.near in
    searched_as side.lists side.direction (Below (KnowsFar side kinds near c.args.family) c.loop-kind.kind) (KnowsPods side kinds near c.args.family) c.args.used.now c.loop-kind.used
    (λ _. all_pods_known side c.requires.search.lawful c.args.search.now.rules.now c.requires.search.rules kinds near c.loop-kind.used c.has_all.result c.has_all.ensures c.if-has_all.true
    c.args.family)
    c.loop-kind.invariant

pub returns : goal.returns
returns c =
    let side = c.args.search.now.side.now in
    let kinds = c.args.search.now.kinds.pods.now in
    let near = c.args.search.now.near in
    searched_as side.lists side.direction (Below (KnowsFar side kinds near c.args.family) c.loop-kind.kind) (KnowsPods side kinds near c.args.family) c.args.used.now c.loop-kind.used
    (all_kinds side kinds near c.args.family c.loop-kind.used c.loop-kind.kind (omega (arith, c.loop-kind-test.false)))
    c.loop-kind.invariant
