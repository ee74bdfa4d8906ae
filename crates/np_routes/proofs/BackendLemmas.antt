-- The routes of all ingresses, and of those of a namespace. For `asked_services`.
use Rattle.std.proofs.Common.{◌≡◌, ◌<◌, ◌+◌, ℕ, List, [], ◌∷◌, Bool, true, false, ◌&&◌, ◌||◌, length, get_or, take, Option, Some, None, flat_map, refl, sym, ap, ◌∙◌, if◌then◌else◌}
use Rattle.std.specs.Prelude.{find}
use Rattle.std.specs.Cmp.Lexicographic.{bytes_decides}
use Rattle.std.specs.List.{list_any}
use Rattle.std.specs.Str.{bytes_eq}
use Rattle.std.proofs.lemmas.Bool.{and_parts}
use Rattle.std.proofs.lemmas.Option.{none-some}
use Rattle.np_routes.specs.Prelude.{Backend, EstateLists, PlacedIngress, ServiceItem, is_service, leads_to, routes_in, routes_of_ingress, routes_through, service_named}
use Rattle.np_model.specs.declared.ingress.Backend.TheVariants as backend
use Rattle.np_routes.proofs.AnyLemmas.{list_any-none}
use Rattle.np_routes.proofs.RouteLemmas.{backend_leads, by_backends, by_ingresses, ingress_leads, list_any-flat_map}
use Rattle.np_routes.proofs.TargetLemmas.{serves-outside, through-unserved}
use Rattle.np_rules.proofs.PlacesLemmas.{list_any-next}
use Rattle.np_rules.specs.Prelude.{PodEnd}
use Rattle.np_base.proofs.Lists.{list_any-agrees}

-- what is found passes
find-passes : {X : Type 0} (test : X → Bool) (xs : List X) (x : X) → find test xs ≡ Some x → test x ≡ true
find-passes test [] x is = absurd (none-some x is)
find-passes {X} test (y ∷ ys) x is = by (test y) refl (find-passes test ys x) is
  where
    by : (here : Bool) → test y ≡ here → (find test ys ≡ Some x → test x ≡ true) → (if here then Some y else find test ys) ≡ Some x → test x ≡ true
    by true passes rest found = let same : y ≡ x = cc in ap test (sym same) ∙ passes
    by false passes rest found = rest found

module _ (lists : EstateLists) (p : PodEnd) (number : ℕ) where
  -- a backend of an ingress of another namespace leads nowhere at the pod
  backend-outside : (namespace : List ℕ) → bytes_eq namespace p.namespace ≡ false → (one : Backend) → backend_leads lists p number namespace one ≡ false
  backend-outside namespace other backend.Resource = refl
  backend-outside namespace other (backend.Service name named) = by (service_named lists.services namespace name) refl
    where
      by : (found : Option ServiceItem) → service_named lists.services namespace name ≡ found → list_any (leads_to p number) (routes_through named found) ≡ false
      by None is = refl
      by (Some service) is =
          let own = (bytes_decides service.namespace namespace).0 (and_parts (bytes_eq service.namespace namespace) (bytes_eq service.name name)
          (find-passes (is_service namespace name) lists.services service is)).0 in
          through-unserved p number named service (serves-outside service p (ap (λ (text : List ℕ). bytes_eq text p.namespace) own ∙ other))

  -- nor does such an ingress
  ingress-outside : (placed : PlacedIngress) → list_any (leads_to p number) (routes_of_ingress lists.services placed.ingress) ≡ ingress_leads lists p number placed
  ingress-outside placed = by (bytes_eq placed.ingress.namespace p.namespace) refl
    where
      by : (here : Bool) → bytes_eq placed.ingress.namespace p.namespace ≡ here →
          list_any (leads_to p number) (routes_of_ingress lists.services placed.ingress) ≡ (here && list_any (leads_to p number) (routes_of_ingress lists.services placed.ingress))
      by true is = refl
      by false is = by_backends lists p number placed ∙ list_any-none (backend_leads lists p number placed.ingress.namespace) placed.ingress.backends (backend-outside placed.ingress.namespace is)

  -- so all routes lead where those of the pod's namespace do
  pub routes-all : list_any (leads_to p number) (flat_map (λ placed. routes_of_ingress lists.services placed.ingress) lists.ingresses) ≡ list_any (leads_to p number) (routes_in lists p.namespace)
  routes-all =
      list_any-flat_map (leads_to p number) (λ placed. routes_of_ingress lists.services placed.ingress) lists.ingresses
      ∙ list_any-agrees (λ placed. list_any (leads_to p number) (routes_of_ingress lists.services placed.ingress)) (ingress_leads lists p number) ingress-outside lists.ingresses
      ∙ sym (by_ingresses lists p number)

-- the routes of one ingress more
pub routes-next : (services listed : List ServiceItem) (ingresses : List PlacedIngress) (i : ℕ) (placed : PlacedIngress) (p : PodEnd) (number : ℕ) (before after : Bool) → i < length ingresses →
    placed ≡ get_or ingresses i placed → services ≡ listed
    → before ≡ list_any (leads_to p number) (flat_map (λ one. routes_of_ingress listed one.ingress) (take i ingresses)) → after ≡
    (before || list_any (leads_to p number) (routes_of_ingress services placed.ingress))
    → after ≡ list_any (leads_to p number) (flat_map (λ one. routes_of_ingress listed one.ingress) (take (i + 1) ingresses))
routes-next services listed ingresses i placed p number before after within item same held put =
    put
    ∙ ap (λ (b : Bool). b || list_any (leads_to p number) (routes_of_ingress services placed.ingress)) held
    ∙ ap (λ (some : List ServiceItem). list_any (leads_to p number) (flat_map (λ one. routes_of_ingress listed one.ingress) (take i ingresses)) || list_any (leads_to p number)
    (routes_of_ingress some placed.ingress)) same
    ∙ sym (list_any-next (leads_to p number) (λ one. routes_of_ingress listed one.ingress) ingresses i placed within item)
