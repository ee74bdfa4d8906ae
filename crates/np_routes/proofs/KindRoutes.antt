-- Pods that no service and no rule tells apart. For ReachedLemmas and crates above.
use Rattle.std.proofs.Common.{◌≡◌, ◌<◌, ℕ, List, [], ◌∷◌, Bool, true, false, not, ◌&&◌, ◌==◌, Option, Some, None, IfSome, length, map, flat_map, slice_get, refl, sym, ap, subst, ◌∙◌, inl, inr, if◌then◌else◌}
use Rattle.std.specs.Prelude.{filter}
use Rattle.std.specs.List.{AllByRecursion, find, list_any}
use Rattle.std.specs.Option.{option_map_or}
use Rattle.std.specs.Str.{bytes_eq}
use Rattle.np_base.proofs.Each.{All-parts, All-append}
use Rattle.np_routes.specs.Prelude.{Backend, EstateLists, Four, Ingress, Named, NamedPort, Number, Pod, PortName, PortSpot, Route, ServiceItem, ServicePort, Tcp, any_controller, ingress_reaches, is_backend_port, is_pod_port, is_routed, is_service, is_target, leads_to, may_send, routes_in, routes_of_backend, routes_of_ingress, routes_through, serves, service_named}
use Rattle.np_conns.specs.Prelude.{same_proto}
use Rattle.np_model.specs.Prelude.{IsLawful, families_of}
use Rattle.np_fold.proofs.NamespaceLemmas.{labels_agree}
use Rattle.np_fold.proofs.WorkloadLemmas.{one_workload}
use Rattle.np_fold.specs.Prelude.{IsSameKind, keys_of_estate, keys_of_optional, keys_of_service, workload_number}
use Rattle.np_fold.proofs.SelectorLemmas.{selector-agree}
use Rattle.np_labels.specs.Prelude.{AgreeOn, meets_selector}
use Rattle.np_labels.specs.declared.selector.Selector.{Selector}
use Rattle.np_labels.proofs.Agreed.{All-from_listed}
use Rattle.np_model.specs.declared.ingress.Backend.TheVariants as backend
use Rattle.np_rules.proofs.DeciderLemmas.{decider_says}
use Rattle.np_rules.specs.Prelude.{Contact, ModelEnd, PodEnd, contact, decider_allows, is_named, no_pod, pod, pod_at, pod_end, side_allows, stranger_end}
use Rattle.np_rules.proofs.EachItem.{All-each, All-flat, list_any-same}
use Rattle.np_kinds.proofs.KindVerdicts.{SameKindEnd-ends, got-same, packet-same}
use Rattle.np_kinds.proofs.PairLemmas.{pod_there}
use Rattle.np_kinds.specs.Prelude.{AreOneKind, between_pods}

-- ---- items of lists

All-flat_map : {X Y : Type 0} (P : Y → Type 0) (f : X → List Y) → ((x : X) → AllByRecursion P (f x)) → (xs : List X) → AllByRecursion P (flat_map f xs)
All-flat_map P f each [] = tt
All-flat_map P f each (x ∷ xs) = All-append P (f x) (flat_map f xs) (each x) (All-flat_map P f each xs)

All-map : {X Y : Type 0} (P : Y → Type 0) (f : X → Y) → ((x : X) → P (f x)) → (xs : List X) → AllByRecursion P (map f xs)
All-map P f each [] = tt
All-map P f each (x ∷ xs) = (each x, All-map P f each xs)

-- what is found is one of the list
found-among : {X : Type 0} (P : X → Type 0) (test : X → Bool) (xs : List X) → AllByRecursion P xs → IfSome (find test xs) P
found-among P test [] all = tt
found-among {X} P test (x ∷ xs) all = by (test x) (found-among P test xs all.1)
  where
    by : (here : Bool) → IfSome (find test xs) P → IfSome (if here then Some x else find test xs) P
    by true rest = all.0
    by false rest = rest

-- ---- routes

-- two pods of one namespace, with the same named ports, that have the same values of the keys that services name
pub record AreServedAlike (services : List ServiceItem) (p q : PodEnd) : Type 0 where
  namespace : p.namespace ≡ q.namespace
  ports : p.ports ≡ q.ports
  labels : AllByRecursion (λ service. AllByRecursion (AgreeOn p.labels q.labels) (keys_of_service service)) services

module _ (lists : EstateLists) (p q : PodEnd) (alike : AreServedAlike lists.services p q) where
  selected-same : (selector : Option Selector) → AllByRecursion (AgreeOn p.labels q.labels) (keys_of_optional selector) →
      option_map_or (λ asked. meets_selector asked p.labels) selector false ≡ option_map_or (λ asked. meets_selector asked q.labels) selector false
  selected-same None agree = refl
  selected-same (Some selector) agree = selector-agree p.labels q.labels selector agree

  -- a service serves both, or neither
  serves-same : (service : ServiceItem) → AllByRecursion (AgreeOn p.labels q.labels) (keys_of_service service) → serves service p ≡ serves service q
  serves-same service agree =
      ap (λ (namespace : List ℕ). not service.external && (bytes_eq service.namespace namespace && option_map_or (λ asked. meets_selector asked p.labels) service.selector false)) alike.namespace
      ∙ ap (λ (b : Bool). not service.external && (bytes_eq service.namespace q.namespace && b)) (selected-same service.selector agree)

  pod_port-same : (named : PortName) (number : ℕ) → is_pod_port named p number ≡ is_pod_port named q number
  pod_port-same (Number own) number = refl
  pod_port-same (Named name) number = ap (λ (ports : List NamedPort). list_any (is_named name (record { proto = Tcp; port = number })) ports) alike.ports

  -- a port leads to the same numbers at both
  target-same : (service : ServiceItem) (port : ServicePort) (number : ℕ) → is_target service port p number ≡ is_target service port q number
  target-same service port number = ap (λ (b : Bool). if service.headless then port.port == number else b) (pod_port-same port.target number)

  -- a route leads to the same numbers at both
  abbrev LeadsAlike : ℕ → Route → Type 0
  LeadsAlike number route = leads_to p number route ≡ leads_to q number route

  through-same : (number : ℕ) (named : PortName) (found : Option ServiceItem) → IfSome found (λ service. AllByRecursion (AgreeOn p.labels q.labels) (keys_of_service service)) →
      AllByRecursion (LeadsAlike number) (routes_through named found)
  through-same number named None agree = tt
  through-same number named (Some service) agree =
      All-map (LeadsAlike number) (λ port. record { service = service; port = port }) (λ port.
      ap (λ (b : Bool). b && is_target service port p number) (serves-same service agree)
      ∙ ap (λ (b : Bool). serves service q && b) (target-same service port number)) (filter (is_backend_port named) service.ports)

  backend-same : (number : ℕ) (namespace : List ℕ) (one : Backend) → AllByRecursion (LeadsAlike number) (routes_of_backend lists.services namespace one)
  backend-same number namespace (backend.Service name named) = through-same number named (service_named lists.services namespace name)
      (found-among (λ service. AllByRecursion (AgreeOn p.labels q.labels) (keys_of_service service)) (is_service namespace name) lists.services alike.labels)
  backend-same number namespace backend.Resource = tt

  routes-same : (number : ℕ) (namespace : List ℕ) → AllByRecursion (LeadsAlike number) (routes_in lists namespace)
  unfolding routes_in
  routes-same number namespace =
      All-flat_map (LeadsAlike number) (λ placed. routes_of_ingress lists.services placed.ingress)
      (λ placed. All-flat_map (LeadsAlike number) (routes_of_backend lists.services placed.ingress.namespace) (backend-same number placed.ingress.namespace) placed.ingress.backends)
      (filter (λ placed. bytes_eq placed.ingress.namespace namespace) lists.ingresses)

  -- the same ports of both are routed
  pub routed-same : (spot : PortSpot) → is_routed lists p spot ≡ is_routed lists q spot
  routed-same spot =
      ap (λ (namespace : List ℕ). same_proto spot.proto Tcp && list_any (leads_to p spot.port) (routes_in lists namespace)) alike.namespace
      ∙ ap (λ (b : Bool). same_proto spot.proto Tcp && b) (list_any-same (leads_to p spot.port) (leads_to q spot.port) (routes_in lists q.namespace) (routes-same spot.port q.namespace))

-- ---- pods of one kind

served-pods : (lists : EstateLists) (a b : Pod) → IsSameKind lists a b → AreServedAlike lists.services (pod_end a) (pod_end b)
served-pods lists a b kind =
    let all = All-from_listed (AgreeOn a.labels b.labels) (keys_of_estate lists) kind.labels in
    let services = (All-parts (AgreeOn a.labels b.labels) _ (flat_map keys_of_service lists.services) all).1 in
    record { namespace = kind.namespace; ports = kind.ports; labels = All-flat (AgreeOn a.labels b.labels) keys_of_service lists.services services }

-- the pods at two places are of one kind, and the same ports of both are routed
pub record AreAlikeAt (lists : EstateLists) (p q : ℕ) : Type 0 where
  pub kind : AreOneKind lists (pod (pod_at lists p)) (pod (pod_at lists q))
  pub served : AreServedAlike lists.services (pod_at lists p) (pod_at lists q)

alike-by : (lists : EstateLists) (p q : ℕ) (a b : Pod) → IsLawful lists → slice_get lists.pods p ≡ Some a → slice_get lists.pods q ≡ Some b → IsSameKind lists a b → AreAlikeAt lists p q
alike-by lists p q a b lawful is is' kind =
    let one_is : pod_at lists p ≡ pod_end a = ap (λ (found : Option Pod). option_map_or pod_end found no_pod) is in
    let other_is : pod_at lists q ≡ pod_end b = ap (λ (found : Option Pod). option_map_or pod_end found no_pod) is' in
    record {
      kind = inl (record { first = a; second = b; one_is = ap pod one_is; other_is = ap pod other_is; kind = kind; namespace = labels_agree lists p q a b lawful is is' kind.namespace });
      served = subst (λ (x : PodEnd). AreServedAlike lists.services x (pod_at lists q)) (sym one_is)
          (subst (λ (y : PodEnd). AreServedAlike lists.services (pod_end a) y) (sym other_is) (served-pods lists a b kind));
    }

-- so are those of one workload
pub one_workload-alike : (lists : EstateLists) (p q : ℕ) → IsLawful lists → p < length lists.pods → q < length lists.pods → workload_number lists p ≡ workload_number lists q → AreAlikeAt lists p q
one_workload-alike lists p q lawful p_in q_in same =
    let a = pod_there lists p p_in in
    let b = pod_there lists q q_in in
    alike-by lists p q a.0 b.0 lawful a.1 b.1 ((one_workload lists p q a.0 b.0 a.1 b.1).0 same).kind

-- ---- what may be sent

abbrev unlabelled_may_send : EstateLists → PodEnd → PortSpot → Bool
unlabelled_may_send lists p spot = side_allows lists Ingress p (contact Ingress (pod p) (pod (stranger_end any_controller)) Four spot)

anyone-same : (lists : EstateLists) (p q : PodEnd) (spot : PortSpot) → AreOneKind lists (pod p) (pod q) → unlabelled_may_send lists p spot ≡ unlabelled_may_send lists q spot
anyone-same lists p q spot kind =
    let anyone : ModelEnd = pod (stranger_end any_controller) in
    let at : PodEnd → Contact = λ near. contact Ingress (pod near) anyone Four spot in
    sym (decider_says lists Ingress (pod p) (at p))
    ∙ ap decider_allows (got-same lists Four spot anyone anyone (pod p) (pod q) (SameKindEnd-ends lists anyone anyone (inr refl)) (SameKindEnd-ends lists (pod p) (pod q) kind))
    ∙ decider_says lists Ingress (pod q) (at q)

sent-same : (lists : EstateLists) (sender : Option ℕ) (p q : ℕ) (spot : PortSpot) → AreOneKind lists (pod (pod_at lists p)) (pod (pod_at lists q)) →
    may_send lists sender p spot ≡ may_send lists sender q spot
sent-same lists None p q spot kind = anyone-same lists (pod_at lists p) (pod_at lists q) spot kind
sent-same lists (Some sender) p q spot kind =
    let from : ModelEnd = pod (pod_at lists sender) in
    list_any-same (λ family. between_pods lists sender p family spot) (λ family. between_pods lists sender q family spot) (families_of lists.pods)
    (All-each (λ family. between_pods lists sender p family spot ≡ between_pods lists sender q family spot)
    (λ family. packet-same lists family spot from from (pod (pod_at lists p)) (pod (pod_at lists q)) (SameKindEnd-ends lists from from (inr refl)) (SameKindEnd-ends lists _ _ kind))
    (families_of lists.pods))

-- the same ports of two such pods are reached
pub reaches-same : (lists : EstateLists) (sender : Option ℕ) (p q : ℕ) (spot : PortSpot) → AreAlikeAt lists p q → ingress_reaches lists sender p spot ≡ ingress_reaches lists sender q spot
unfolding ingress_reaches
reaches-same lists sender p q spot alike =
    ap (λ (b : Bool). b && may_send lists sender p spot) (routed-same lists (pod_at lists p) (pod_at lists q) alike.served spot)
    ∙ ap (λ (b : Bool). is_routed lists (pod_at lists q) spot && b) (sent-same lists sender p q spot alike.kind)
