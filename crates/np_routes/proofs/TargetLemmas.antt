-- Where a backend leads, whose service serves a pod or not. For `ServiceTargets::of`, `add_named` and 3 more.
use Rattle.std.proofs.Common.{◌≡◌, ◌<◌, ◌+◌, ◌==◌, ℕ, List, [], ◌∷◌, ◌++◌, Bool, true, false, ◌&&◌, ◌||◌, Some, length, get_or, take, refl, sym, ap, ◌∙◌, if◌then◌else◌}
use Rattle.std.specs.List.{list_any}
use Rattle.std.specs.Option.{option_map_or}
use Rattle.std.specs.Prelude.{not}
use Rattle.std.specs.Str.{bytes_eq}
use Rattle.std.proofs.lemmas.Bool.{false≢true}
use Rattle.std.proofs.lemmas.List.Folds.{list_any-append, list_any_more}
use Rattle.std.proofs.Math.Bool.{or-false, and-false, or_assoc}
use Rattle.np_base.proofs.Bools.{eq-swap}
use Rattle.np_conns.specs.Prelude.{same_proto}
use Rattle.np_routes.specs.Prelude.{AskedService, Named, NamedPort, Number, PortName, PortSet, Proto, Sctp, ServiceItem, ServicePort, ServiceTargets, Tcp, Udp, asked_leads, asked_port_leads, at_pod, has_own, has_port, is_backend_port, is_named_in, is_pod_port, is_same_port, is_target, leads_to, routes_through, serves, target_leads}
use Rattle.np_labels.specs.Prelude.{meets_selector}
use Rattle.np_routes.proofs.PortSetLemmas.{at_pod-joined}
use Rattle.np_routes.proofs.RouteLemmas.{through-ports}
use Rattle.np_rules.specs.Prelude.{PodEnd}

-- whether some port of a service that a backend names leads to the number, where the service serves the pod or not
abbrev some_leads : Bool → PodEnd → ℕ → PortName → ServiceItem → List ServicePort → Bool
some_leads served p number named service ports = list_any (λ port. is_backend_port named port && (served && is_target service port p number)) ports

module _ (p : PodEnd) (number : ℕ) (named : PortName) (service : ServiceItem) where
  -- where it serves the pod, they are those of its ports that the backend names
  pub through-served : serves service p ≡ true →
      list_any (leads_to p number) (routes_through named (Some service)) ≡ list_any (λ port. is_backend_port named port && is_target service port p number) service.ports
  through-served is = through-ports p number named service ∙ ap (λ (served : Bool). some_leads served p number named service service.ports) is

  none-leads : (ports : List ServicePort) → some_leads false p number named service ports ≡ false
  none-leads [] = refl
  none-leads (port ∷ ports) = ap (λ (b : Bool). (is_backend_port named port && false) || b) (none-leads ports)
      ∙ or-false (is_backend_port named port && false) ∙ and-false (is_backend_port named port)

  -- and else there are none
  pub through-unserved : serves service p ≡ false → list_any (leads_to p number) (routes_through named (Some service)) ≡ false
  through-unserved is = through-ports p number named service ∙ ap (λ (served : Bool). some_leads served p number named service service.ports) is ∙ none-leads service.ports

-- ---- at a pod

pub serves-outside : (service : ServiceItem) (p : PodEnd) → bytes_eq service.namespace p.namespace ≡ false → serves service p ≡ false
serves-outside service p is =
    ap (λ (b : Bool). not service.external && (b && option_map_or (λ selector. meets_selector selector p.labels) service.selector false)) is ∙ and-false (not service.external)

-- the services of a namespace lead where they did, and where the one that is put there leads
pub service-added : (before after : List ServiceTargets) (one : ServiceTargets) (asked : AskedService) (p : PodEnd) (number : ℕ) →
    after ≡ before ++ (if bytes_eq asked.service.now.namespace p.namespace then one ∷ [] else []) → one.service.now ≡ asked.service.now →
    at_pod one.targets p number ≡ list_any (asked_port_leads asked p number) asked.service.now.ports
    → list_any (target_leads p number) after ≡ (list_any (target_leads p number) before || asked_leads p number asked)
service-added before after one asked p number put same leads =
    ap (list_any (target_leads p number)) put
    ∙ list_any-append (target_leads p number) before (if bytes_eq asked.service.now.namespace p.namespace then one ∷ [] else [])
    ∙ ap (λ (b : Bool). list_any (target_leads p number) before || b) (by (bytes_eq asked.service.now.namespace p.namespace) refl)
  where
    by : (here : Bool) → bytes_eq asked.service.now.namespace p.namespace ≡ here → list_any (target_leads p number) (if here then one ∷ [] else []) ≡ asked_leads p number asked
    by true is =
        or-false (target_leads p number one)
        ∙ ap (λ (service : ServiceItem). serves service p && at_pod one.targets p number) same
        ∙ ap (λ (b : Bool). serves asked.service.now p && b) leads
    by false is = sym (ap (λ (b : Bool). b && list_any (asked_port_leads asked p number) asked.service.now.ports) (serves-outside asked.service.now p is))

-- those of all services, of which one more serves the pod
pub targets-served : (before other after : PortSet) (service : ServiceItem) (p : PodEnd) (number : ℕ) → serves service p ≡ true →
    ((port : PortName) → has_port after port ≡ (has_port before port || has_port other port)) → at_pod after p number ≡ (at_pod before p number || (serves service p && at_pod other p number))
targets-served before other after service p number served joined =
    at_pod-joined before other after p number joined ∙ ap (λ (b : Bool). at_pod before p number || (b && at_pod other p number)) (sym served)

-- or does not
pub targets-unserved : (before other : PortSet) (service : ServiceItem) (p : PodEnd) (number : ℕ) → serves service p ≡ false →
    at_pod before p number ≡ (at_pod before p number || (serves service p && at_pod other p number))
targets-unserved before other service p number unserved =
    sym (or-false (at_pod before p number)) ∙ ap (λ (b : Bool). at_pod before p number || (b && at_pod other p number)) (sym unserved)

-- a port leads to the port of its own number where the service is headless
pub target-headless : (before : PortSet) (service : ServiceItem) (port : ServicePort) (p : PodEnd) (number : ℕ) → service.headless ≡ true →
    (at_pod before p number || is_pod_port (Number port.port) p number) ≡ (at_pod before p number || is_target service port p number)
target-headless before service port p number is = ap (λ (headless : Bool). at_pod before p number || (if headless then port.port == number else is_pod_port port.target p number)) (sym is)

-- and else to its target
pub target-own : (before : PortSet) (service : ServiceItem) (port : ServicePort) (p : PodEnd) (number : ℕ) → service.headless ≡ false →
    (at_pod before p number || is_pod_port port.target p number) ≡ (at_pod before p number || is_target service port p number)
target-own before service port p number is = ap (λ (headless : Bool). at_pod before p number || (if headless then port.port == number else is_pod_port port.target p number)) (sym is)

-- ---- ports of a pod by their names

module _ (old middle : PortName → Bool) (ports : List NamedPort) (i : ℕ) (port : NamedPort) (number : ℕ) (within : i < length ports) (item : port ≡ get_or ports i port)
    (held : middle (Number number) ≡ (old (Number number) || list_any (is_named_in old number) (take i ports))) (same : middle (Named port.name) ≡ old (Named port.name)) where
  one-more : (old (Number number) || (list_any (is_named_in old number) (take i ports) || is_named_in old number port)) ≡
      (old (Number number) || list_any (is_named_in old number) (take (i + 1) ports))
  one-more =
      ap (λ (one : NamedPort). old (Number number) || (list_any (is_named_in old number) (take i ports) || is_named_in old number one)) item
      ∙ ap (λ (b : Bool). old (Number number) || b) (sym (list_any_more (is_named_in old number) ports i port within))

  -- whether the port is one, as the code asks it
  named-asked : (middle (Named port.name) && (same_proto port.proto Tcp && (number == port.number))) ≡ is_named_in old number port
  named-asked = ap (λ (b : Bool). b && (same_proto port.proto Tcp && (number == port.number))) same ∙ ap (λ (b : Bool). old (Named port.name) && (b && (number == port.number))) (proto-swap port.proto)
    where
      proto-swap : (proto : Proto) → same_proto proto Tcp ≡ same_proto Tcp proto
      proto-swap Tcp = refl
      proto-swap Udp = refl
      proto-swap Sctp = refl

  -- its number is added
  pub named-added : (after : PortName → Bool) → same_proto port.proto Tcp ≡ true → middle (Named port.name) ≡ true →
      ((other : PortName) → after other ≡ (middle other || is_same_port (Number port.number) other)) →
      after (Number number) ≡ (old (Number number) || list_any (is_named_in old number) (take (i + 1) ports))
  named-added after tcp has added =
      let asked = ap (λ (b : Bool). middle (Named port.name) && (b && (number == port.number))) tcp ∙ ap (λ (b : Bool). b && (number == port.number)) has in
      added (Number number)
      ∙ ap (λ (b : Bool). b || (port.number == number)) held
      ∙ ap (λ (b : Bool). (old (Number number) || list_any (is_named_in old number) (take i ports)) || b) (eq-swap port.number number ∙ sym asked ∙ named-asked)
      ∙ or_assoc (old (Number number)) (list_any (is_named_in old number) (take i ports)) (is_named_in old number port)
      ∙ one-more

  -- it is not one
  pub named-other : (same_proto port.proto Tcp && middle (Named port.name)) ≡ false → middle (Number number) ≡ (old (Number number) || list_any (is_named_in old number) (take (i + 1) ports))
  named-other other =
      held
      ∙ sym (or-false (old (Number number) || list_any (is_named_in old number) (take i ports)))
      ∙ ap (λ (b : Bool). (old (Number number) || list_any (is_named_in old number) (take i ports)) || b) (sym (by (same_proto port.proto Tcp) (middle (Named port.name)) other) ∙ named-asked)
      ∙ or_assoc (old (Number number)) (list_any (is_named_in old number) (take i ports)) (is_named_in old number port)
      ∙ one-more
    where
      by : (tcp has : Bool) → (tcp && has) ≡ false → (has && (tcp && (number == port.number))) ≡ false
      by true true is = absurd (false≢true (sym is))
      by true false is = refl
      by false true is = refl
      by false false is = refl

-- ---- ports of a service

-- a TCP port that backends name leads to its target
pub port-asked : (asked : AskedService) (port : ServicePort) (p : PodEnd) (number : ℕ) (before after : Bool) → same_proto port.proto Tcp ≡ true → has_own asked.ports port ≡ true →
    after ≡ (before || is_target asked.service.now port p number) → after ≡ (before || asked_port_leads asked p number port)
port-asked asked port p number before after tcp own put =
    put ∙ ap (λ (b : Bool). before || (b && is_target asked.service.now port p number)) (sym (ap (λ (b : Bool). b && has_own asked.ports port) tcp ∙ own))

-- and another nowhere
pub port-other : (asked : AskedService) (port : ServicePort) (p : PodEnd) (number : ℕ) (before : Bool) → (same_proto port.proto Tcp && has_own asked.ports port) ≡ false →
    before ≡ (before || asked_port_leads asked p number port)
port-other asked port p number before other =
    sym (or-false before) ∙ ap (λ (b : Bool). before || (b && is_target asked.service.now port p number)) (sym other)
