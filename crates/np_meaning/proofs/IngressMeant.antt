-- An ingress that was read is what its members say. For `ingresses_mean_their_members`.
use Rattle.std.proofs.Common.{◌≡◌, List, [], ◌∷◌, ◌++◌, map, Bool, true, false, not, Option, Some, None, unwrap_or, codes, Ok, refl, subst}
use Rattle.std.specs.Prelude.{option_to_list}
use Rattle.std.specs.List.{flat_map}
use Rattle.serde_json.specs.Data.{Data, object, no_members}
use Rattle.np_json.specs.Prelude.{has_one_of, listed, member_of, must_be_object, namespaced_name, optional, port, refuse_if, required, text, text_of, whole_of}
use Rattle.np_meaning.specs.Prelude.{Backend, BadField, IngressItem, IsBackend, IsBackendPort, IsIngressOf, IsReadOf, Named, Number, PortName, Resource, Service, backends_in, list_at, object_at, text_at}
use Rattle.np_meaning.proofs.MetaMeant.{namespaced_name-meant}
use Rattle.np_meaning.proofs.Outputs.{optional-output, each-output, number_at-required, text-output}
use Rattle.np_meaning.proofs.MemberReads.{text_at-output, object_at-output}
use Rattle.np_policies.proofs.ReadLemmas.{bind-output, then-output}
use Rattle.np_meaning.proofs.PodMeant.{AreEach-append, AreEach-flat_map}
use Rattle.np_objects.specs.Prelude.{backend, backend_port, backend_service, has_a_name, http, ingress, ingress_item, ingress_spec, is_numbered, is_one, number_or_name, path, rule}
use Rattle.np_meaning.specs.EachPod.{AreEach}

-- ---- backends

backend_port-meant : (value : Data) (read : PortName) → backend_port value ≡ Ok read → IsBackendPort value read
unfolding backend_port
backend_port-meant value read is =
    let past = then-output (must_be_object value) _ read is in
    let shaped = then-output (refuse_if (not (is_one (is_numbered (whole_of (codes "number") value)) (has_a_name (text_of (codes "name") value)))) BadField)
    (number_or_name (is_numbered (whole_of (codes "number") value)) value) read past in
    by (is_numbered (whole_of (codes "number") value)) shaped
  where
    by : (b : Bool) → number_or_name b value ≡ Ok read → IsBackendPort value read
    by true found =
        let number = bind-output (required (codes "number") port value) (λ number. Ok (Number number)) read found in
        let made : Number number.first ≡ read = let after = number.after in cc in
        subst (IsBackendPort value) made (number_at-required (codes "number") value number.first number.here)
    by false found =
        let name = bind-output (required (codes "name") text value) (λ name. Ok (Named name)) read found in
        let made : Named name.first ≡ read = let after = name.after in cc in
        subst (IsBackendPort value) made (text_at-output text text-output (codes "name") value name.first name.here)

-- a service as a backend
abbrev IsServiceBackend : Data → Backend → Type 0
IsServiceBackend value (Service name port) = (text_at (codes "name") value ≡ name) × IsBackendPort (object_at (codes "port") value) port
IsServiceBackend value Resource = ⊥

backend_service-meant : (value : Data) (read : Backend) → backend_service value ≡ Ok read → IsServiceBackend value read
unfolding backend_service
backend_service-meant value read is =
    let past = then-output (must_be_object value) _ read is in
    let name = bind-output (required (codes "name") text value) _ read past in
    let port = bind-output (required (codes "port") backend_port value) (λ port. Ok (Service name.first port)) read name.after in
    let made : Service name.first port.first ≡ read = let after = port.after in cc in
    subst (IsServiceBackend value) made (
      text_at-output text text-output (codes "name") value name.first name.here,
      backend_port-meant (object_at (codes "port") value) port.first
          (object_at-output backend_port (codes "port") value port.first port.here),
    )

backend-meant : (value : Data) (read : Backend) → backend value ≡ Ok read → IsBackend value read
unfolding backend
backend-meant value read is =
    let past = then-output (must_be_object value) _ read is in
    let shaped = then-output (refuse_if (not (has_one_of (codes "service" ∷ codes "resource" ∷ []) value)) BadField) _ read past in
    let service = bind-output (optional (codes "service") backend_service value) (λ service. Ok (unwrap_or service Resource)) read shaped in
    let made : unwrap_or service.first Resource ≡ read = let after = service.after in cc in
    subst (IsBackend value) made (by (member_of (codes "service") value) refl service.first (optional-output backend_service (codes "service") value service.first service.here))
  where
    of_service : (one : Data) (read : Backend) → member_of (codes "service") value ≡ Some one → IsServiceBackend one read → IsBackend value read
    of_service one (Service name port) there said = rw there said
    of_service one Resource there said = absurd said

    by : (member : Option Data) → member_of (codes "service") value ≡ member → (found : Option Backend) → IsReadOf backend_service member found → IsBackend value (unwrap_or found Resource)
    by None none None said = none
    by None none (Some read) said = absurd said
    by (Some one) there None said = absurd said
    by (Some one) there (Some read) said = of_service one read there (backend_service-meant one read said)

-- ---- rules

path-meant : (value : Data) (read : Backend) → path value ≡ Ok read → IsBackend (object_at (codes "backend") value) read
unfolding path
path-meant value read is =
    let past = then-output (must_be_object value) (required (codes "backend") backend value) read is in
    backend-meant (object_at (codes "backend") value) read (object_at-output backend (codes "backend") value read past)

-- the backends of the paths of a rule
abbrev paths_of : Data → List Data
paths_of value = map (object_at (codes "backend")) (list_at (codes "paths") value)

AreEach-map : (f : Data → Data) (values : List Data) (reads : List Backend) → AreEach (λ value read. IsBackend (f value) read) values reads → AreEach IsBackend (map f values) reads
AreEach-map f [] [] are = tt
AreEach-map f [] (read ∷ reads) are = absurd are
AreEach-map f (value ∷ values) [] are = absurd are
AreEach-map f (value ∷ values) (read ∷ reads) are = (are.0, AreEach-map f values reads are.1)

http-meant : (value : Data) (reads : List Backend) → http value ≡ Ok reads → AreEach IsBackend (paths_of value) reads
unfolding http
http-meant value reads is =
    let past = then-output (must_be_object value) (listed (codes "paths") path value) reads is in
    AreEach-map (object_at (codes "backend")) (list_at (codes "paths") value) reads
    (each-output path (λ d read. IsBackend (object_at (codes "backend") d) read) path-meant (codes "paths") value reads past)

rule-meant : (value : Data) (reads : List Backend) → rule value ≡ Ok reads → AreEach IsBackend (paths_of (object_at (codes "http") value)) reads
unfolding rule
rule-meant value reads is =
    let past = then-output (must_be_object value) _ reads is in
    let found = bind-output (optional (codes "http") http value) (λ found. Ok (unwrap_or found [])) reads past in
    let made : unwrap_or found.first [] ≡ reads = let after = found.after in cc in
    subst (AreEach IsBackend (paths_of (object_at (codes "http") value))) made (by (member_of (codes "http") value) found.first (optional-output http (codes "http") value found.first found.here))
  where
    by : (member : Option Data) (found : Option (List Backend)) → IsReadOf http member found → AreEach IsBackend (paths_of (unwrap_or member (object no_members))) (unwrap_or found [])
    by None None said = tt
    by None (Some reads) said = absurd said
    by (Some one) None said = absurd said
    by (Some one) (Some reads) said = http-meant one reads said

-- ---- ingresses

ingress_spec-meant : (value : Data) (reads : List Backend) → ingress_spec value ≡ Ok reads → AreEach IsBackend (backends_in value) reads
unfolding ingress_spec
ingress_spec-meant value reads is =
    let past = then-output (must_be_object value) _ reads is in
    let first = bind-output (optional (codes "defaultBackend") backend value) _ reads past in
    let rules = bind-output (listed (codes "rules") rule value) (λ rules. Ok (option_to_list first.first ++ flat_map (λ backends. backends) rules)) reads first.after in
    let made : option_to_list first.first ++ flat_map (λ backends. backends) rules.first ≡ reads = let after = rules.after in cc in
    subst (AreEach IsBackend (backends_in value)) made
    (AreEach-append IsBackend (option_to_list (member_of (codes "defaultBackend") value)) (flat_map (λ d. paths_of (object_at (codes "http") d)) (list_at (codes "rules") value))
    (option_to_list first.first) (flat_map (λ backends. backends) rules.first)
    (by (member_of (codes "defaultBackend") value) first.first (optional-output backend (codes "defaultBackend") value first.first first.here))
    (AreEach-flat_map IsBackend (λ d. paths_of (object_at (codes "http") d)) (list_at (codes "rules") value) rules.first
    (each-output rule (λ d reads. AreEach IsBackend (paths_of (object_at (codes "http") d)) reads) rule-meant (codes "rules") value rules.first rules.here)))
  where
    by : (member : Option Data) (found : Option Backend) → IsReadOf backend member found → AreEach IsBackend (option_to_list member) (option_to_list found)
    by None None said = tt
    by None (Some read) said = absurd said
    by (Some one) None said = absurd said
    by (Some one) (Some read) said = (backend-meant one read said, tt)

pub ingress-meant : (value : Data) (read : IngressItem) → ingress value ≡ Ok read → IsIngressOf value read
unfolding ingress
ingress-meant value read is =
    let own = bind-output (required (codes "metadata") namespaced_name value) _ read is in
    let spec = bind-output (optional (codes "spec") ingress_spec value) (λ backends. Ok (ingress_item own.first (unwrap_or backends []))) read own.after in
    let made : ingress_item own.first (unwrap_or spec.first []) ≡ read = let after = spec.after in cc in
    let names = namespaced_name-meant (object_at (codes "metadata") value) own.first (object_at-output namespaced_name (codes "metadata") value own.first own.here) in
    subst (IsIngressOf value) made (record {
      names = (names.namespace, names.name);
      backends = by (member_of (codes "spec") value) spec.first (optional-output ingress_spec (codes "spec") value spec.first spec.here);
    })
  where
    by : (member : Option Data) (found : Option (List Backend)) → IsReadOf ingress_spec member found → AreEach IsBackend (backends_in (unwrap_or member (object no_members))) (unwrap_or found [])
    by None None said = tt
    by None (Some reads) said = absurd said
    by (Some one) None said = absurd said
    by (Some one) (Some reads) said = ingress_spec-meant one reads said
