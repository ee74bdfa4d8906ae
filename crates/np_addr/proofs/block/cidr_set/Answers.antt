use Rattle.std.proofs.Common.{arith}
use Rattle.np_addr.proofs.BlockLemmas.{four_has, six_has, block_last}
use Rattle.np_addr.proofs.block.cidr_set.Goals as goal

pub returns-in_ok-nothing-in-Four-clause-exact : goal.returns-in_ok-nothing-in-Four-clause-exact
returns-in_ok-nothing-in-Four-clause-exact c = rw c.in-Four.is
    (λ well. four_has _ _ _ _ _ (block_last 32 _ _ _ well.0 well.1 (omega (arith, c.last_of.ensures.ordered, c.last_of.ensures.high)) (rw c.free_bits.ensures at c.last_of.ensures.last))
    c.in_ok-of_range-in-Four.ensures.members c.in_ok-nothing-in-Four.ensures.members)

pub returns-in_ok-of_range-in-Six-clause-exact : goal.returns-in_ok-of_range-in-Six-clause-exact
returns-in_ok-of_range-in-Six-clause-exact c = rw c.in-Six.is
    (λ well. six_has _ _ _ _ _ (block_last 128 _ _ _ well.0 well.1 (omega (arith, c.last_of-in-Six.ensures.ordered, c.last_of-in-Six.ensures.high))
    (rw c.free_bits-in-Six.ensures at c.last_of-in-Six.ensures.last)) c.in_ok-nothing-in-Six.ensures.members c.in_ok-of_range-in-Six.ensures.members)
