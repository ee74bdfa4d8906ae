-- Services, and what backends name of them. For `add_backend`, `add_service` and `none_asked`.
use Prim.Native.Nat.{zero}
use Rattle.std.proofs.Common.{◌≡◌, ◌<◌, ℕ, List, [], ◌∷◌, Bool, true, false, ◌&&◌, ◌||◌, Bor, Option, Some, length, get_or, set, suc, take, ◌+◌, ◌++◌, arith, refl, sym, ap, ◌∙◌}
use Rattle.std.proofs.Math.Seq.{map-set_same}
use Rattle.std.proofs.lemmas.List.{length-map, map-append, take_more}
use Rattle.std.proofs.lemmas.List.Folds.{list_any-append}
use Rattle.std.proofs.lemmas.Option.{slice_get-get_or, none-some}
use Rattle.std.specs.List.{list_any, slice_get}
use Rattle.std.specs.Option.{option_map}
use Rattle.std.proofs.Math.Bool.{and-false}
use Rattle.np_conns.specs.Prelude.{same_proto}
use Rattle.np_routes.specs.Prelude.{AskedService, PortName, PortSet, ServiceItem, Tcp, asked_leads, asked_port_leads, has_own, has_port, is_backend_port, is_named_by, is_same_port, is_target, leads_to, routes_through, serves, services_of}
use Rattle.np_routes.proofs.AnyLemmas.{and-or, list_any-none, list_any-or, list_any-set}
use Rattle.np_routes.proofs.PortSetLemmas.{own-added, own-none}
use Rattle.np_routes.proofs.TargetLemmas.{through-served, through-unserved}
use Rattle.np_rules.specs.Prelude.{PodEnd}

module _ (p : PodEnd) (number : ℕ) where
  -- what one backend more names leads where it did, or where the backend leads
  asked-added : (service : Bor ServiceItem) (before after : PortSet) (named : PortName) → ((other : PortName) → has_port after other ≡ (has_port before other || is_same_port named other))
      → asked_leads p number (record { service = service; ports = after }) ≡
      (asked_leads p number (record { service = service; ports = before }) || list_any (leads_to p number) (routes_through named (Some service.now)))
  asked-added service before after named added = by (serves service.now p) refl
    where
      ports : list_any (asked_port_leads (record { service = service; ports = after }) p number) service.now.ports ≡
          (list_any (asked_port_leads (record { service = service; ports = before }) p number) service.now.ports || list_any
          (λ port. is_backend_port named port && is_target service.now port p number) service.now.ports)
      ports = list_any-or (asked_port_leads (record { service = service; ports = before }) p number) (λ port. is_backend_port named port && is_target service.now port p number)
          (asked_port_leads (record { service = service; ports = after }) p number) service.now.ports
          (λ port. ap (λ (b : Bool). (same_proto port.proto Tcp && b) && is_target service.now port p number) (own-added before after named port added) ∙ and-or (same_proto port.proto Tcp)
          (has_own before port) (is_named_by named port) (is_target service.now port p number))

      by : (served : Bool) → serves service.now p ≡ served →
          (served && list_any (asked_port_leads (record { service = service; ports = after }) p number) service.now.ports) ≡
          ((served && list_any (asked_port_leads (record { service = service; ports = before }) p number) service.now.ports) || list_any (leads_to p number)
          (routes_through named (Some service.now)))
      by true is = ports ∙ ap (λ (b : Bool). list_any (asked_port_leads (record { service = service; ports = before }) p number) service.now.ports || b)
          (sym (through-served p number named service.now is))
      by false is = sym (through-unserved p number named service.now is)

  -- of a service of which nothing is named no port leads anywhere
  pub asked-none : (asked : AskedService) → ((other : PortName) → has_port asked.ports other ≡ false) → asked_leads p number asked ≡ false
  asked-none asked none =
      ap (λ (b : Bool). serves asked.service.now p && b) (list_any-none (asked_port_leads asked p number) asked.service.now.ports (λ port.
      ap (λ (b : Bool). (same_proto port.proto Tcp && b) && is_target asked.service.now port p number) (own-none asked.ports port none) ∙ ap
      (λ (b : Bool). b && is_target asked.service.now port p number) (and-false (same_proto port.proto Tcp))))
      ∙ and-false (serves asked.service.now p)

  -- ---- one of many

  get-service : (asked : List AskedService) (i : ℕ) (one : AskedService) → slice_get asked i ≡ Some one → slice_get (services_of asked) i ≡ Some one.service.now
  get-service [] i one is = absurd (none-some one is)
  get-service (first ∷ rest) zero one is = ap (option_map (λ (a : AskedService). a.service.now)) is
  get-service (first ∷ rest) (suc i) one is = get-service rest i one is

  -- the service that was found at a place is that of the item there
  found-service : (services : List ServiceItem) (asked : List AskedService) (place : ℕ) (one : AskedService) (found : Option ServiceItem) → services_of asked ≡ services → place < length asked →
      one ≡ get_or asked place one → found ≡ slice_get services place → found ≡ Some one.service.now
  found-service services asked place one found same within is was =
      was ∙ ap (λ (some : List ServiceItem). slice_get some place) (sym same) ∙ get-service asked place one (slice_get-get_or asked place one within ∙ ap Some (sym is))

  pub backend-added : (services : List ServiceItem) (asked : List AskedService) (place : ℕ) (one : AskedService) (after : PortSet) (named : PortName) (found : Option ServiceItem) →
      services_of asked ≡ services → place < length asked → one ≡ get_or asked place one → found ≡ slice_get services place
      → ((other : PortName) → has_port after other ≡ (has_port one.ports other || is_same_port named other))
      → list_any (asked_leads p number) (set asked place (record { service = one.service; ports = after })) ≡
      (list_any (asked_leads p number) asked || list_any (leads_to p number) (routes_through named found))
  backend-added services asked place one after named found same within is was added =
      list_any-set (asked_leads p number) asked place one (record { service = one.service; ports = after }) (list_any (leads_to p number) (routes_through named (Some one.service.now))) within is
      (asked-added one.service one.ports after named added)
      ∙ ap (λ (o : Option ServiceItem). list_any (asked_leads p number) asked || list_any (leads_to p number) (routes_through named o))
      (sym (found-service services asked place one found same within is was))

-- there are as many as services
pub asked-within : (services : List ServiceItem) (asked : List AskedService) (place : ℕ) → services_of asked ≡ services → place < length services → place < length asked
asked-within services asked place same within = omega (arith, within, ap length same, length-map asked (λ (a : AskedService). a.service.now))

-- and they stay the same
pub services-kept : (services : List ServiceItem) (asked : List AskedService) (place : ℕ) (one : AskedService) (after : PortSet) → services_of asked ≡ services → one ≡ get_or asked place one →
    services_of (set asked place (record { service = one.service; ports = after })) ≡ services
services-kept services asked place one after same is =
    map-set_same (λ (a : AskedService). a.service.now) asked place (record { service = one.service; ports = after }) one (ap (λ (a : AskedService). a.service.now) is) ∙ same

-- one service more, of which nothing is named
pub services-more : (listed : List ServiceItem) (i : ℕ) (made more : List AskedService) (one : AskedService) (service : ServiceItem) → i < length listed → service ≡ get_or listed i service →
    one.service.now ≡ service → more ≡ made ++ one ∷ [] → services_of made ≡ take i listed → services_of more ≡ take (i + 1) listed
services-more listed i made more one service within item own put held =
    ap services_of put
    ∙ map-append (λ (a : AskedService). a.service.now) made (one ∷ [])
    ∙ ap (λ (services : List ServiceItem). services ++ one.service.now ∷ []) held
    ∙ ap (λ (last : ServiceItem). take i listed ++ last ∷ []) (own ∙ item)
    ∙ sym (take_more listed i service within)

pub none-more : (made more : List AskedService) (one : AskedService) (p : PodEnd) (number : ℕ) → more ≡ made ++ one ∷ [] → ((other : PortName) → has_port one.ports other ≡ false) →
    list_any (asked_leads p number) made ≡ false → list_any (asked_leads p number) more ≡ false
none-more made more one p number put none held =
    ap (list_any (asked_leads p number)) put
    ∙ list_any-append (asked_leads p number) made (one ∷ [])
    ∙ ap (λ (b : Bool). b || (asked_leads p number one || false)) held
    ∙ ap (λ (b : Bool). b || false) (asked-none p number one none)
