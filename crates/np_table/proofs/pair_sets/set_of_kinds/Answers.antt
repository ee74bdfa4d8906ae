use Rattle.np_table.proofs.KindSets.{kinds-pass, kinds-received, place-is}
use Rattle.np_table.proofs.SetLemmas.{IfOk-both}
use Rattle.np_table.proofs.pair_sets.set_of_kinds.Goals as goal
use Rattle.np_table.specs.Prelude.{Egress, Ingress}

pub returns-then-is_empty-clause-set : goal.returns-then-is_empty-clause-set
returns-then-is_empty-clause-set c =
    let lists = c.args.sides.now.lists in
    let sender = place-is lists Egress c.args.source c.pod-sender.result c.at.result.now c.at.ensures.side c.pod-sender.ensures.value in
    kinds-received lists c.args.source c.args.destination c.pod-sender.result c.args.family c.in_ok-received.received sender c.in_ok-received.ensures.well c.in_ok-received.ensures.members
    c.if-is_empty.ensures.answer

pub returns-clause-set : goal.returns-clause-set
returns-clause-set c =
    let lists = c.args.sides.now.lists in
    let sender = place-is lists Egress c.args.source c.pod-sender.result c.at.result.now c.at.ensures.side c.pod-sender.ensures.value in
    let receiver = place-is lists Ingress c.args.destination c.pod-receiver.result c.at-2.result.now c.at-2.ensures.side c.pod-receiver.ensures.value in
    IfOk-both c.meet.result _ _ _ (λ made members well.
    kinds-pass lists c.pod_set.new.self.lists c.args.source c.args.destination c.pod-sender.result c.pod-receiver.result c.args.family c.in_ok-sent.sent c.in_ok-received.received made
    c.in_ok-received.ensures.more.lists sender receiver well c.in_ok-sent.ensures.members c.in_ok-received.ensures.members members) c.meet.ensures.members c.meet.ensures.well
