use Rattle.std.proofs.Common.{◌≡◌, ℕ, List, Option, subst, sym, ◌∙◌}
use Rattle.np_routes.specs.Prelude.{IsPlaceOf, ServiceItem, place_at, service_named}
use Rattle.np_routes.proofs.services.Services.place.Goals as goal

pub returns : goal.returns
returns c =
    let namespace = c.args.namespace.now in
    let name = c.args.name.now in
    let found : c.copied.result ≡ place_at c.self.inside.places namespace name = c.copied.ensures ∙ c.get.ensures.value in
    subst (λ (listed : List ServiceItem). IsPlaceOf listed (service_named listed namespace name) c.copied.result) c.self.view_is
    (subst (λ (place : Option ℕ). IsPlaceOf c.self.inside.listed.now (service_named c.self.inside.listed.now namespace name) place) (sym found) (c.self.invariant namespace name))
