use Rattle.std.proofs.Common.{sym, ◌∙◌}
use Rattle.np_routes.proofs.ServiceLemmas.{place-put}
use Rattle.np_routes.proofs.services.put.Goals as goal

pub returns-in_ok-insert : goal.returns-in_ok-insert
returns-in_ok-insert c namespace name =
    place-put c.args.places.now c.args.service.now c.args.place namespace name c.insert.new.self c.as_str.result c.as_str-2.result c.as_str.ensures c.as_str-2.ensures
    (sym c.contains_key.ensures ∙ c.if-not-contains_key.true) c.in_ok-insert.ensures.updates
