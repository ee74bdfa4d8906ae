use Rattle.np_addr.proofs.BlockLemmas.{set_has-minus}
use Rattle.np_addr.proofs.block.block_set.Goals as goal

pub returns-clause-members : goal.returns-clause-members
returns-clause-members c =
    set_has-minus c.args.cidr c.args.excepts.now c.in_ok-whole.whole c.in_ok-holes.holes c.in_ok-minus.field-0
    (c.in_ok-whole.ensures.exact c.requires.block) c.in_ok-holes.ensures.members c.in_ok-minus.ensures.members
