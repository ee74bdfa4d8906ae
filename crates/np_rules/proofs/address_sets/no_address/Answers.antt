use Rattle.std.proofs.lemmas.Result.{IfOk-weaker}
use Rattle.np_rules.proofs.AddressLemmas.{set_has-nothing}
use Rattle.np_rules.proofs.address_sets.no_address.Goals as goal

pub returns : goal.returns
returns c = IfOk-weaker c.nothing.result _ _ (λ set members. set_has-nothing set members) c.nothing.ensures.members
