use Rattle.std.proofs.Common.{sym, ◌∙◌}
use Rattle.std.proofs.lemmas.Result.{IfOk-weaker}
use Rattle.np_rules.proofs.KeptLemmas.{quieter}
use Rattle.np_rules.proofs.address_sets.joined_set.Goals as goal

pub returns-else-are_of_addresses : goal.returns-else-are_of_addresses
returns-else-are_of_addresses g c =
    IfOk-weaker c.no_address.result _ _
    (λ set none a is. none a ∙ sym (quieter g.A.StandsForAddresses.is_of (λ item. g.A.StandsForAddresses.stands_for item a) c.args.items.now (λ item other. g.A.StandsForAddresses.none_of_others item a other)
    (sym c.are_of_addresses.ensures ∙ c.if-are_of_addresses.false)))
    c.no_address.ensures
