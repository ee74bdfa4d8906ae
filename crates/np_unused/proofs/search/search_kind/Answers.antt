use Rattle.std.proofs.Common.{◌≡◌, ◌<◌, length, slice_get, subst, Some, sym, ap, ◌∙◌}
use Rattle.std.proofs.lemmas.Bool.{and_parts}
use Rattle.std.proofs.lemmas.Result.{IfOk-weaker}
use Rattle.np_conns.specs.Prelude.{has_spot, is_spot}
use Rattle.np_unused.proofs.KindPodLemmas.{own_kind}
use Rattle.np_unused.proofs.QuietLemmas.{quiet_kind}
use Rattle.np_unused.proofs.SearchLemmas.{layer_searched}
use Rattle.np_unused.proofs.StepLemmas.{kind_at, kind_is, not_searched, pod_of_kind, searched_as}
use Rattle.np_unused.proofs.search.search_kind.Goals as goal
use Rattle.np_unused.specs.Prelude.{EstateLists, KindPod, KnowsAll, KnowsFar, PodsAreUsed, may_tell}
use Rattle.np_rules.specs.Prelude.{with_pod}

pub may_tell-requires : goal.may_tell-requires
may_tell-requires c =
    let kinds = c.args.search.now.kinds.pods.now in
    subst (λ (lists : EstateLists). (pod_of_kind kinds c.args.kind).pod < length lists.pods) (sym c.requires.search.estate_is) (own_kind c.args.search.now.side.now.lists c.requires.search.lawful kinds
    c.requires.search.kinds c.args.kind (pod_of_kind kinds c.args.kind) (kind_at kinds c.args.kind c.requires.kind)).0

pub returns-then-not-may_tell : goal.returns-then-not-may_tell
returns-then-not-may_tell c =
    let side = c.args.search.now.side.now in
    let kinds = c.args.search.now.kinds.pods.now in
    not_searched side.lists side.direction (KnowsFar side kinds c.args.search.now.near c.args.family c.args.kind) c.args.used.now
    (λ far at asked. quiet_kind c.args.search.now c.requires.search c.args.used.now c.args.kind far at c.args.family
    (sym (ap (λ (one : KindPod). may_tell c.args.search.now c.args.used.now c.args.kind one c.args.family) (kind_is kinds c.args.kind far at)) ∙ sym c.may_tell.ensures ∙ c.if-not-may_tell.true) asked)

pub pod_layer-requires : goal.pod_layer-requires
pod_layer-requires c =
    let kinds = c.args.search.now.kinds.pods.now in
    (own_kind c.args.search.now.side.now.lists c.requires.search.lawful kinds c.requires.search.kinds c.args.kind (pod_of_kind kinds c.args.kind) (kind_at kinds c.args.kind c.requires.kind)).0

pub returns : goal.returns
unfolding PodsAreUsed
returns c =
    let side = c.args.search.now.side.now in
    let kinds = c.args.search.now.kinds.pods.now in
    let one = pod_of_kind kinds c.args.kind in
    let at : slice_get kinds c.args.kind ≡ Some one = kind_at kinds c.args.kind c.requires.kind in
    let listed = c.requires.search.families c.args.family c.requires.family c.args.kind one at (and_parts _ _ (sym c.may_tell.ensures ∙ c.if-not-may_tell.false)).0 in
    let far = with_pod one.pod c.args.family in
    IfOk-weaker c.note_layer.result _ _
    (λ _ noted. searched_as side.lists side.direction (KnowsAll is_spot side far) (KnowsFar side kinds c.args.search.now.near c.args.family c.args.kind) c.args.used.now c.note_layer.new.self
    (λ known other at_other asked.
    subst (λ (k : KindPod). KnowsAll is_spot side (with_pod k.pod c.args.family) c.note_layer.new.self) (kind_is kinds c.args.kind other at_other) known)
    (layer_searched has_spot is_spot side far c.in_ok-layer.layer c.requires.search.lawful c.in_ok-layer.ensures.layer c.args.search.now.rules.now c.requires.search.rules c.args.used.now
    c.note_layer.new.self listed noted))
    c.note_layer.ensures
