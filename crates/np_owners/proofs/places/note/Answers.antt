use Rattle.std.proofs.Common.{sym, ◌∙◌}
use Rattle.np_owners.proofs.PlaceLemmas.{HoldsPlaces-named}
use Rattle.np_owners.proofs.places.note.Goals as goal

pub returns-clause-places : goal.returns-clause-places
returns-clause-places c earlier at places =
    HoldsPlaces-named earlier c.args.item.now c.in-Some.name c.args.by_name.now.entries c.put.new.by_name.entries c.args.place at
    (sym c.in_ok-name.ensures ∙ c.in-Some.is) (sym c.in_default-get.ensures.value) c.in_ok-put.ensures.0 places
