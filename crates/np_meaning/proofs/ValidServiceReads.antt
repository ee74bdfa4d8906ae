-- Valid Services and Ingresses are read. For `valid_ingresses_are_read` and `valid_services_are_read`.
use Rattle.std.proofs.Common.{◌≡◌, ◌==◌, ◌⊎◌, ℕ, List, [], ◌∷◌, true, false, Some, option_map, Ok, codes, refl, ap, inl, inr, arith, unwrap_or}
use Rattle.std.proofs.lemmas.Bool.{le-leb, ne_eqb}
use Rattle.serde_json.specs.Data.{Data}
use Rattle.np_json.specs.Prelude.{has_one_of, labels, listed, must_be_object, namespaced_name, optional, port, protocol_name, refuse_if, required, text, word}
use Rattle.np_meaning.proofs.ValidNames.{label-word-all, labels-reads, not_empty, text-reads, type-read}
use Rattle.np_meaning.proofs.ValidNetworkReads.{own-reads}
use Rattle.np_meaning.proofs.ValidPorts.{no_number, protocol-reads, some_port-reads}
use Rattle.np_meaning.proofs.ValidReads.{Reads, bind-reads, ends-reads, listed-reads, may-have, none-read, object-reads, optional-reads, required-reads, then-reads}
use Rattle.np_meaning.specs.Types.{IngressItem, Named, Number, Resource, ServiceItem}
use Rattle.np_meaning.specs.ValidMembers.{IsAny, IsDnsLabel, IsLabel, IsMapOf, IsText}
use Rattle.np_meaning.specs.ValidPolicies.{IsOwnMeta, IsProtocol, IsSomePort}
use Rattle.np_meaning.specs.ValidServices.{IsNamedBackend, IsNumberedBackend, IsResourceBackend, IsServiceBackend, IsServicePortName, IsTarget, IsValidBackend, IsValidBackendPort, IsValidBackendService, IsValidHttp, IsValidIngress, IsValidIngressRule, IsValidIngressSpec, IsValidPath, IsValidService, IsValidServicePort, IsValidServiceSpec}
use Rattle.np_model.specs.Prelude.{is_word}
use Rattle.np_objects.specs.Prelude.{backend, backend_port, backend_service, by_name, by_number, http, ingress, ingress_spec, object_by, object_of, path, port_name, rule, service, service_port, service_spec, target_port, unless_empty}
use Rattle.np_objects.specs.declared.object.Object.TheVariants as object

-- ---- ports

word-of : (text : List ℕ) → IsServicePortName text → is_word text ≡ true
word-of text (inl none) = ap is_word none
word-of text (inr is) = label-word-all text is.bytes

port_name-reads : (value : Data) → IsText IsServicePortName value → Reads (port_name value)
unfolding port_name word refuse_if
port_name-reads value is = (unless_empty is.0, rw (is.1, word-of is.0 is.2) refl)

target-reads : (value : Data) → IsTarget value → Reads (target_port value)
unfolding target_port by_number by_name port_name word refuse_if
target-reads value (inl is) =
    let n = is.0 in
    let some : (n == 0) ≡ false = ne_eqb n 0 (λ none. omega (arith, none, is.1.least)) in
    (Some (Number n), rw (is.1.whole, some, le-leb 1 n is.1.least, le-leb n 65535 is.1.most) refl)
target-reads value (inr is) = (option_map Named (unless_empty is.0), rw (no_number value is.0 is.1, is.1, label-word-all is.0 is.2.bytes) refl)

service_port-reads : (value : Data) → IsValidServicePort value → Reads (service_port value)
unfolding service_port
service_port-reads value is =
    then-reads (must_be_object value) _ (object-reads value is.object)
    (bind-reads (optional (codes "name") port_name value) _ (optional-reads port_name (IsText IsServicePortName) port_name-reads (codes "name") value is.name) (λ called read.
    bind-reads (optional (codes "protocol") protocol_name value) _ (optional-reads protocol_name (IsText IsProtocol) protocol-reads (codes "protocol") value is.protocol) (λ named read.
    bind-reads (required (codes "port") port value) _ (required-reads port IsSomePort some_port-reads (codes "port") value is.port) (λ number read.
    bind-reads (optional (codes "targetPort") target_port value) _ (optional-reads target_port IsTarget target-reads (codes "targetPort") value is.target) (λ target read. ends-reads _)))))

-- ---- services

service_spec-reads : (value : Data) → IsValidServiceSpec value → Reads (service_spec value)
unfolding service_spec
service_spec-reads value is =
    then-reads (must_be_object value) _ (object-reads value is.object)
    (bind-reads (optional (codes "type") text value) _ (optional-reads text (IsText IsAny) (text-reads IsAny) (codes "type") value is.type) (λ kind read.
    bind-reads (optional (codes "clusterIP") text value) _ (optional-reads text (IsText IsAny) (text-reads IsAny) (codes "clusterIP") value is.address) (λ address read.
    bind-reads (optional (codes "selector") labels value) _ (optional-reads labels (IsMapOf IsLabel) labels-reads (codes "selector") value is.selector) (λ selector read.
    bind-reads (listed (codes "ports") service_port value) _ (listed-reads service_port IsValidServicePort service_port-reads (codes "ports") value is.ports) (λ ports read. ends-reads _)))))

service-reads : (value : Data) → IsValidService value → Reads (service value)
unfolding service
service-reads value is =
    bind-reads (required (codes "metadata") namespaced_name value) _ (required-reads namespaced_name IsOwnMeta own-reads (codes "metadata") value is.metadata) (λ own read.
    bind-reads (required (codes "spec") service_spec value) _ (required-reads service_spec IsValidServiceSpec service_spec-reads (codes "spec") value is.spec) (λ spec read. ends-reads _))

pub service-valid : (value : Data) → IsValidService value → (read : ServiceItem) × (object_of value ≡ Ok (object.Service read))
unfolding object_of object_by
service-valid value is = let read = service-reads value is in (read.0, rw (type-read (codes "v1") (codes "Service") value is.type, read.1) refl)

-- ---- ingresses

backend_port-reads : (value : Data) → IsValidBackendPort value → Reads (backend_port value)
unfolding backend_port refuse_if
backend_port-reads value is = by is.port
  where
    by : IsNumberedBackend value ⊎ IsNamedBackend value → Reads (backend_port value)
    by (inl one) =
        let read = required-reads port IsSomePort some_port-reads (codes "number") value one.number in
        let n = one.number.2.0 in
        let some : (n == 0) ≡ false = ne_eqb n 0 (λ none. omega (arith, none, one.number.2.1.least)) in
        (Number read.0, rw ((object-reads value is.object).1, one.no_name, one.number.1, one.number.2.1.whole, some, read.1) refl)
    by (inr one) =
        let read = required-reads text (IsText IsDnsLabel) (text-reads IsDnsLabel) (codes "name") value one.name in
        (Named read.0, rw ((object-reads value is.object).1, one.no_number, one.name.1, one.name.2.1, not_empty one.name.2.0 one.name.2.2.some, read.1) refl)

backend_service-reads : (value : Data) → IsValidBackendService value → Reads (backend_service value)
unfolding backend_service
backend_service-reads value is =
    then-reads (must_be_object value) _ (object-reads value is.object)
    (bind-reads (required (codes "name") text value) _ (required-reads text (IsText IsDnsLabel) (text-reads IsDnsLabel) (codes "name") value is.name) (λ called read.
    bind-reads (required (codes "port") backend_port value) _ (required-reads backend_port IsValidBackendPort backend_port-reads (codes "port") value is.port) (λ number read. ends-reads _)))

one_service : (value : Data) → IsServiceBackend value → has_one_of (codes "service" ∷ codes "resource" ∷ []) value ≡ true
one_service value is = rw (is.service.1, is.no_resource) refl

one_resource : (value : Data) → IsResourceBackend value → has_one_of (codes "service" ∷ codes "resource" ∷ []) value ≡ true
one_resource value is = rw (is.resource.1, is.no_service) refl

backend-reads : (value : Data) → IsValidBackend value → Reads (backend value)
unfolding backend refuse_if
backend-reads value is = by is.leads
  where
    by : IsServiceBackend value ⊎ IsResourceBackend value → Reads (backend value)
    by (inl one) =
        let read = optional-reads backend_service IsValidBackendService backend_service-reads (codes "service") value (may-have IsValidBackendService (codes "service") value one.service) in
        (unwrap_or read.0 Resource, rw ((object-reads value is.object).1, one_service value one, read.1) refl)
    by (inr one) = (Resource, rw ((object-reads value is.object).1, one_resource value one, none-read backend_service (codes "service") value one.no_service) refl)

path-reads : (value : Data) → IsValidPath value → Reads (path value)
unfolding path
path-reads value is = then-reads (must_be_object value) _ (object-reads value is.object) (required-reads backend IsValidBackend backend-reads (codes "backend") value is.backend)

http-reads : (value : Data) → IsValidHttp value → Reads (http value)
unfolding http
http-reads value is = then-reads (must_be_object value) _ (object-reads value is.object) (listed-reads path IsValidPath path-reads (codes "paths") value is.paths)

rule-reads : (value : Data) → IsValidIngressRule value → Reads (rule value)
unfolding rule
rule-reads value is =
    then-reads (must_be_object value) _ (object-reads value is.object)
    (bind-reads (optional (codes "http") http value) _ (optional-reads http IsValidHttp http-reads (codes "http") value is.http) (λ paths read. ends-reads _))

ingress_spec-reads : (value : Data) → IsValidIngressSpec value → Reads (ingress_spec value)
unfolding ingress_spec
ingress_spec-reads value is =
    then-reads (must_be_object value) _ (object-reads value is.object)
    (bind-reads (optional (codes "defaultBackend") backend value) _ (optional-reads backend IsValidBackend backend-reads (codes "defaultBackend") value is.default) (λ first read.
    bind-reads (listed (codes "rules") rule value) _ (listed-reads rule IsValidIngressRule rule-reads (codes "rules") value is.rules) (λ rules read. ends-reads _)))

ingress-reads : (value : Data) → IsValidIngress value → Reads (ingress value)
unfolding ingress
ingress-reads value is =
    bind-reads (required (codes "metadata") namespaced_name value) _ (required-reads namespaced_name IsOwnMeta own-reads (codes "metadata") value is.metadata) (λ own read.
    bind-reads (optional (codes "spec") ingress_spec value) _ (optional-reads ingress_spec IsValidIngressSpec ingress_spec-reads (codes "spec") value is.spec) (λ spec read. ends-reads _))

pub ingress-valid : (value : Data) → IsValidIngress value → (read : IngressItem) × (object_of value ≡ Ok (object.Ingress read))
unfolding object_of object_by
ingress-valid value is = let read = ingress-reads value is in (read.0, rw (type-read (codes "networking.k8s.io/v1") (codes "Ingress") value is.type, read.1) refl)
