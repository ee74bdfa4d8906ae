use Rattle.std.proofs.lemmas.Result.{IfOk-weaker}
use Rattle.np_rules.proofs.AddressLemmas.{set_has-everything}
use Rattle.np_rules.proofs.address_sets.all_addresses.Goals as goal

pub returns : goal.returns
returns c = IfOk-weaker c.everything.result _ _ (λ set members. set_has-everything set members) c.everything.ensures.members
