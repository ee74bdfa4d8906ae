use Rattle.std.proofs.Common.{◌∙◌}
use Rattle.np_reading.proofs.LawfulPolicies.{admin_policies-ascend, net_policies-ascend}
use Rattle.np_reading.proofs.LawfulReading.{estate_of_items-lawful}
use Rattle.np_reading.proofs.reading.read_estate.Goals as goal

pub of-requires-2 : goal.of-requires-2
of-requires-2 c = rw c.in_ok-lists_of.ensures (record { admin_policies = admin_policies-ascend c.in_ok-items.items; net_policies = net_policies-ascend c.in_ok-items.items })

pub returns-clause-lawful : goal.returns-clause-lawful
returns-clause-lawful c =
    rw (c.of-2.ensures ∙ c.in_ok-lists_of.ensures)
    (estate_of_items-lawful c.in_ok-items.items c.in_ok-items.ensures.few c.in_ok-items.ensures.well (rw c.items-2.ensures at c.in_ok-places.ensures.apart))
