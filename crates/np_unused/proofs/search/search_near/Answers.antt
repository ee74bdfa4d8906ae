use Rattle.std.proofs.Common.{Option, subst}
use Rattle.std.proofs.lemmas.Result.{IfOk-weaker}
use Rattle.np_unused.proofs.SameKindLemmas.{left_known, left_within, none_left_known}
use Rattle.np_unused.proofs.StepLemmas.{knows_before_grows, not_searched, searched_as}
use Rattle.np_unused.proofs.search.search_near.Goals as goal
use Rattle.np_unused.specs.Prelude.{IsLeft, KnowsKind, KnowsLeftOf, Left}

pub search_side-requires-clause-left : goal.search_side-requires-clause-left
search_side-requires-clause-left c =
    let kinds = c.args.kinds.now in
    left_within kinds.estate.now kinds.direction kinds.pods.now c.args.near c.args.used.now c.in-Some.ends
    (subst (λ (l : Option Left). IsLeft kinds.estate.now kinds.direction kinds.pods.now c.args.near l) c.in-Some.is c.in_ok-left.ensures) c.requires.near

pub returns-in-Some : goal.returns-in-Some
returns-in-Some c =
    let lists = c.args.kinds.now.estate.now in
    let direction = c.args.kinds.now.direction in
    let kinds = c.args.kinds.now.pods.now in
    let near = c.args.near in
    let old = c.args.used.now in
    let new = c.search_side.new.used in
    let ends = c.in-Some.ends in
    let left = subst (λ (l : Option Left). IsLeft lists direction kinds near l) c.in-Some.is c.in_ok-left.ensures in
    IfOk-weaker c.search_side.result _ _
    (λ _ searched. searched_as lists direction (KnowsLeftOf lists direction kinds near ends) (KnowsKind lists direction kinds near) old new
    (left_known lists direction kinds near new ends left (knows_before_grows lists direction kinds near old new searched.grows c.requires.before))
    searched)
    c.search_side.ensures

pub returns-in-None : goal.returns-in-None
returns-in-None c =
    let lists = c.args.kinds.now.estate.now in
    let direction = c.args.kinds.now.direction in
    let kinds = c.args.kinds.now.pods.now in
    let near = c.args.near in
    not_searched lists direction (KnowsKind lists direction kinds near) c.args.used.now
    (none_left_known lists direction kinds near c.args.used.now (subst (λ (l : Option Left). IsLeft lists direction kinds near l) c.in-None.is c.in_ok-left.ensures) c.requires.before)
