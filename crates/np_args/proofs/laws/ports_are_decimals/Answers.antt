use Rattle.std.proofs.Common.{arith}
use Rattle.np_args.proofs.NumberLemmas.{number_to-decimal}
use Rattle.np_args.proofs.laws.ports_are_decimals.Goals as goal

pub returns : goal.returns
returns c = number_to-decimal 65535 (omega arith)
