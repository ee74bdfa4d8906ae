use Rattle.std.proofs.Common.{sym, subst}
use Rattle.std.proofs.lemmas.Result.{IfOk-weaker}
use Rattle.np_kinds.proofs.SharedLemmas.{from-alike, to-alike}
use Rattle.np_kinds.proofs.shared_side.SharedSide.pod_set.Goals as goal
use Rattle.np_kinds.specs.Prelude.{Conns, IsSetToward, PodQuestion}

pub returns-in-Some-clause-set : goal.returns-in-Some-clause-set
returns-in-Some-clause-set c =
    let asked : PodQuestion = record { direction = c.self.inside.direction; near = c.self.inside.like; peer = c.args.peer; family = c.args.family } in
    IfOk-weaker c.copy.result _ _ (λ made is.
    subst (λ (set : Conns). IsSetToward c.args.self.now c.args.peer c.args.family set) (sym is)
    (from-alike c.args.self.now c.self.inside.rules c.args.sets.now asked c.in-Some.set.now c.self.view_is c.requires.lists c.self.invariant.0 c.self.invariant.1 c.in-Some.ensures)) c.copy.ensures.equal

pub keep-requires : goal.keep-requires
keep-requires c =
    let asked : PodQuestion = record { direction = c.self.inside.direction; near = c.self.inside.like; peer = c.args.peer; family = c.args.family } in
    to-alike c.args.self.now c.self.inside.rules c.args.sets.now asked c.in_ok-set.set c.self.view_is c.requires.lists c.self.invariant.0 c.self.invariant.1
    (record { members = c.in_ok-set.ensures.members; well = c.in_ok-set.ensures.well })
