use Rattle.std.proofs.Common.{arith}
use Rattle.std.proofs.lemmas.Grind.{text_groups}
use Rattle.np_routes.proofs.backends.put_last.Goals as goal

pub returns : goal.returns
returns c other = grind (arith, text_groups)
