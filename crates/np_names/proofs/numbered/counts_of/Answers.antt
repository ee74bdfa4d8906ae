use Rattle.std.proofs.Common.{arith}
use Rattle.np_names.proofs.CountLemmas.{times-take-le}
use Rattle.np_names.proofs.numbered.counts_of.Goals as goal

pub count-requires : goal.count-requires
count-requires c = omega (arith, c.loop-text.invariant c.text-item.result, times-take-le c.text-item.result c.args.texts.now c.loop-text.text-index)
