use Rattle.std.proofs.Common.{arith}
use Rattle.np_addr.proofs.BlockLemmas.{cleared-mask, rest_of_cleared}
use Rattle.np_addr.proofs.cidr.cleared.Goals as goal

pub returns-clause-value : goal.returns-clause-value
returns-clause-value c = cleared-mask c.args.bits c.args.number c.low_bits.result c.requires (omega arith) c.low_bits.ensures

pub returns-clause-rest : goal.returns-clause-rest
returns-clause-rest c = rw (cleared-mask c.args.bits c.args.number c.low_bits.result c.requires (omega arith) c.low_bits.ensures) (rest_of_cleared c.args.bits c.args.number)
