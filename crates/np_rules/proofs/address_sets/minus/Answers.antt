use Rattle.std.proofs.lemmas.Result.{IfOk-weaker}
use Rattle.np_rules.proofs.AddressLemmas.{set_has-minus}
use Rattle.np_rules.proofs.address_sets.minus.Goals as goal

pub returns : goal.returns
returns c = IfOk-weaker c.minus.result _ _ (λ set members. set_has-minus c.args.whole.now c.args.part.now set members) c.minus.ensures.members
