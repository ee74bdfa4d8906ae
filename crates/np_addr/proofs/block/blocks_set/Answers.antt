use Rattle.std.proofs.Common.{arith, rules}
use Rattle.std.proofs.lemmas.Result.{IfOk-weaker}
use Rattle.np_addr.proofs.BlockLemmas.{one_more, set_has-join_all}
use Rattle.np_addr.proofs.block.blocks_set.Goals as goal

pub loop-block-preserved : goal.loop-block-preserved
loop-block-preserved c =
    one_more c.args.blocks.now c.loop-block.block-index c.block-item.result c.loop-block.sets.items c.in_ok-cidr_set.field-0 c.push.new.self.items
    (omega arith) c.block-item.is c.in_ok-push.ensures.items c.loop-block.invariant (c.in_ok-cidr_set.ensures.exact (search rules))

pub returns-clause-members : goal.returns-clause-members
returns-clause-members c =
    let joined = rw c.deref.ensures.value at c.join_all.ensures.members in
    IfOk-weaker c.join_all.result _ _ (λ made has. set_has-join_all c.args.blocks.now c.loop-block.block-index c.loop-block.sets.items made (omega arith) c.loop-block.invariant has) joined
