use Rattle.std.proofs.Common.{sym, ◌∙◌}
use Rattle.np_addr.specs.Prelude.{cidr_of}
use Rattle.np_addr.proofs.CidrLemmas.{block_of-last}
use Rattle.np_addr.proofs.read.find_cidr.Goals as goal

pub returns-clause-read : goal.returns-clause-read
unfolding cidr_of
returns-clause-read c =
    rw c.in_ok-before.ensures.cut (c.find_block.ensures.block ∙ sym (block_of-last c.in_ok-before.before.now c.in_ok-before.after.now))
