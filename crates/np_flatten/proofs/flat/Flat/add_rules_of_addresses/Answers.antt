use Rattle.std.proofs.Common.{◌∙◌}
use Rattle.np_flatten.proofs.ReceiverFacts.{rows-filled}
use Rattle.np_flatten.proofs.flat.Flat.add_rules_of_addresses.Goals as goal

pub add_rules_of_addresses-requires : goal.add_rules_of_addresses-requires
add_rules_of_addresses-requires c =
    rows-filled c.self.inside.passing c.first-first.result _ c.items.result.now (c.items.ensures ∙ c.in_ok-rows.ensures.rows)
