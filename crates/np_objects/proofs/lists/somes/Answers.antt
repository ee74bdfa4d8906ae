use Rattle.std.proofs.Common.{arith}
use Rattle.std.proofs.lemmas.Grind.{common_steps}
use Rattle.std.proofs.lemmas.List.Elements.{filter_map-append}
use Rattle.np_objects.proofs.lists.somes.Goals as goal

pub loop-value-preserved-in-Continue-1 : goal.loop-value-preserved-in-Continue-1
loop-value-preserved-in-Continue-1 g c = grind (arith, common_steps, filter_map-append)

pub loop-value-preserved : goal.loop-value-preserved
loop-value-preserved g c = grind (arith, common_steps, filter_map-append)
