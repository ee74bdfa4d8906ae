use Rattle.std.proofs.lemmas.Result.{IfOk-weaker}
use Rattle.np_rules.proofs.AddressLemmas.{set_has-join}
use Rattle.np_rules.proofs.address_sets.join.Goals as goal

pub returns : goal.returns
returns c = IfOk-weaker c.join.result _ _ (λ set members. set_has-join c.args.one.now c.args.other.now set members) c.join.ensures.members
