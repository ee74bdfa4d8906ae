use Rattle.np_table.proofs.SetLemmas.{IfOk-both}
use Rattle.np_table.proofs.SideLemmas.{both-pass, received-pass}
use Rattle.np_table.proofs.pair_sets.set_between.Goals as goal

pub returns-then-is_empty : goal.returns-then-is_empty
returns-then-is_empty c =
    received-pass c.args.sender.now c.args.receiver.now c.args.family c.in_ok-received.received c.requires c.in_ok-received.ensures.well
    (rw c.pod.ensures.value at c.in_ok-received.ensures.members) c.if-is_empty.ensures.answer

pub returns : goal.returns
returns c =
    IfOk-both c.meet.result _ _ _ (λ made members well. both-pass c.args.sender.now c.args.receiver.now c.args.family c.in_ok-sent.sent c.in_ok-received.received made c.requires well
    (rw c.pod-2.ensures.value at c.in_ok-sent.ensures.members) (rw c.pod.ensures.value at c.in_ok-received.ensures.members) members) c.meet.ensures.members c.meet.ensures.well
