use Rattle.std.proofs.Common.{subst, sym}
use Rattle.std.proofs.lemmas.Result.{IfOk-weaker}
use Rattle.np_unused.proofs.KindPodLemmas.{own_kind}
use Rattle.np_unused.proofs.QuietLemmas.{search_is, searched_side}
use Rattle.np_unused.proofs.StepLemmas.{kind_at, pod_of_kind}
use Rattle.np_unused.proofs.search.search_side.Goals as goal
use Rattle.np_model.specs.Prelude.{IsFew}
use Rattle.np_rules.specs.Prelude.{PodSide}

pub of-requires : goal.of-requires
of-requires c =
    let kinds = c.args.kinds.now.pods.now in
    (own_kind c.args.kinds.now.estate.now c.requires.kinds.lawful kinds c.requires.kinds.pods c.args.near (pod_of_kind kinds c.args.near) (kind_at kinds c.args.near c.requires.near)).0

pub names-requires : goal.names-requires
names-requires c = record { few = subst (λ (side : PodSide). IsFew side.lists) (sym c.in_ok-side.ensures) c.requires.kinds.lawful.few }

pub search_ends-requires-clause-search : goal.search_ends-requires-clause-search
search_ends-requires-clause-search c = search_is c.args.kinds.now c.requires.kinds c.args.near c.requires.near c.in_ok-side.side c.in_ok-side.ensures c.in_ok-rules.rules
    (record { admin = c.in_ok-rules.ensures.admin; net = c.in_ok-rules.ensures.net; base = c.in_ok-rules.ensures.base })

pub returns : goal.returns
returns c =
    IfOk-weaker c.search_ends.result _ _
    (λ _ searched. searched_side c.args.kinds.now.estate.now c.args.kinds.now.direction c.args.kinds.now.pods.now c.args.near c.args.left c.in_ok-side.side c.in_ok-side.ensures c.args.used.now
    c.search_ends.new.used searched)
    c.search_ends.ensures
