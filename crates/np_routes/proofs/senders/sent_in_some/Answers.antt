use Rattle.std.proofs.Common.{ap, ◌∙◌}
use Rattle.std.specs.List.{list_any}
use Rattle.std.proofs.lemmas.List.{take_all}
use Rattle.std.proofs.lemmas.Result.{IfOk-weaker}
use Rattle.np_routes.specs.Prelude.{Family}
use Rattle.np_conns.specs.Prelude.{Conns, has_spot}
use Rattle.np_routes.proofs.ReachedLemmas.{sets-next}
use Rattle.np_routes.proofs.senders.sent_in_some.Goals as goal
use Rattle.np_kinds.specs.Prelude.{between_pods}

pub loop-family-preserved : goal.loop-family-preserved
loop-family-preserved c = λ spot is. sets-next (between_pods c.args.sender.now.lists c.args.sender.now.pod c.args.receiver.now.pod) c.args.families.now c.loop-family.family-index _ c.loop-family.sets.items
    c.push.new.self.items c.in_ok-set_between.field-0 spot c.loop-family-test.true c.in_ok-push.ensures.items c.in_ok-set_between.ensures is (c.loop-family.invariant spot is)

pub returns-clause-members : goal.returns-clause-members
returns-clause-members c =
    IfOk-weaker c.join_all.result _ _ (λ made members spot is.
    members spot
    ∙ ap (list_any (λ (set : Conns). has_spot set spot)) c.deref.ensures.value
    ∙ c.loop-family.invariant spot is
    ∙ ap (list_any (λ (family : Family). between_pods c.args.sender.now.lists c.args.sender.now.pod c.args.receiver.now.pod family spot))
    (take_all c.loop-family.family-index c.args.families.now c.loop-family-test.false)) c.join_all.ensures.members
