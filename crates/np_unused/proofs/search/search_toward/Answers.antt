use Rattle.std.proofs.Common.{get_or, arith, Some, List, ap, subst, sym, ◌∙◌}
use Rattle.std.specs.List.{Contains}
use Rattle.std.proofs.lemmas.Option.{get_or_from_slice_get, slice_get-get_or}
use Rattle.np_unused.specs.Prelude.{Family, KnowsFar, KnowsToward}
use Rattle.np_addr.specs.declared.address.Family.TheVariants.{Four}
use Rattle.np_unused.proofs.StepLemmas.{Below, KnowsOneIn, knows_far_grows, more_searched, none_searched, searched_as}
use Rattle.np_unused.proofs.search.search_toward.Goals as goal

pub loop-family-init : goal.loop-family-init
loop-family-init c =
    let side = c.args.search.now.side.now in
    none_searched side.lists side.direction (KnowsOneIn side c.args.search.now.kinds.pods.now c.args.search.now.near c.args.kind c.args.families.now) c.args.used.now

pub search_kind-requires-clause-family : goal.search_kind-requires-clause-family
search_kind-requires-clause-family c =
    subst (λ (all : List Family). Contains all (get_or c.args.families.now c.loop-family.family-index Four)) c.requires.families (
      c.loop-family.family-index,
      omega arith,
      get_or_from_slice_get c.args.families.now c.loop-family.family-index _ _
          (slice_get-get_or c.args.families.now c.loop-family.family-index Four (omega arith)),
    )

pub loop-family-preserved : goal.loop-family-preserved
loop-family-preserved c =
    let side = c.args.search.now.side.now in
    let kinds = c.args.search.now.kinds.pods.now in
    let near = c.args.search.now.near in
    let families = c.args.families.now in
    let place = c.loop-family.family-index in
    more_searched side.lists side.direction (KnowsOneIn side kinds near c.args.kind families)
    (λ k old new grows known family at. knows_far_grows side kinds near family c.args.kind old new grows (known family at)) place c.args.used.now c.loop-family.used c.search_kind.new.used
    c.loop-family.invariant
    (searched_as side.lists side.direction (KnowsFar side kinds near (get_or families place Four) c.args.kind) (KnowsOneIn side kinds near c.args.kind families place) c.loop-family.used
    c.search_kind.new.used
    (λ known family at. subst (λ (f : Family). KnowsFar side kinds near f c.args.kind c.search_kind.new.used) (get_or_from_slice_get families place family Four at) known)
    c.in_ok-search_kind.ensures)

pub returns : goal.returns
returns c =
    let side = c.args.search.now.side.now in
    let kinds = c.args.search.now.kinds.pods.now in
    let near = c.args.search.now.near in
    let families = c.args.families.now in
    searched_as side.lists side.direction (Below (KnowsOneIn side kinds near c.args.kind families) c.loop-family.family-index) (KnowsToward side kinds near c.args.kind) c.args.used.now
    c.loop-family.used
    (λ known family has.
    let listed = subst (λ (all : List Family). Contains all family) (sym c.requires.families) has in
    known listed.0 (omega (arith, listed.1)) family (slice_get-get_or families listed.0 family listed.1 ∙ ap Some listed.2))
    c.loop-family.invariant
