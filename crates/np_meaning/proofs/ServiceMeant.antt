-- A service that was read is what its members say. For `services_mean_their_members`.
use Rattle.std.proofs.Common.{◌≡◌, ℕ, ℤ, pos, negsuc, zero, suc, List, [], ◌∷◌, map, false, Option, Some, None, option_map, unwrap_or, codes, Ok, refl, sym, ap, subst, ◌∙◌, arith}
use Rattle.std.specs.List.{list_all}
use Rattle.std.specs.Option.{option_flatten}
use Rattle.std.specs.Str.{bytes_eq}
use Rattle.std.proofs.lemmas.Bool.Decides.{nat_tests}
use Rattle.std.proofs.Math.Bool.{or-false}
use Rattle.serde_json.specs.Data.{Data, object, Members, no_members, member}
use Rattle.serde_json.specs.Find.{as_object, as_str}
use Rattle.np_meaning.specs.Prelude.{IsReadOf, IsServiceOf, IsServicePort, IsServiceSelector, Named, Number, Pair, PortName, ServiceItem, ServicePort, Tcp, entries_at, have_entries, is_text_of, list_at, number_at, object_at, target_at, text_at}
use Rattle.np_json.specs.Prelude.{as_whole, labels, listed, member_of, must_be_object, namespaced_name, optional, pairs_of_members, port, port_number, protocol_name, required, text}
use Rattle.np_labels.specs.Prelude.{label_requirement, meets_requirement, op_allows, value_of}
use Rattle.np_labels.specs.declared.op.Op.TheVariants.{OneOf}
use Rattle.np_meaning.proofs.MetaMeant.{labels-output, namespaced_name-meant, pairs-member}
use Rattle.np_meaning.proofs.Outputs.{OutputOf, optional-output, each-output, number_at-required, text_at-optional}
use Rattle.np_policies.proofs.ReadLemmas.{bind-output, then-output}
use Rattle.np_meaning.proofs.PodMeant.{port_name-meant, port_name-output, protocol-meant, IsTextOr}
use Rattle.np_objects.specs.Prelude.{by_name, by_number, is_text, is_zero, port_name, selector_of, service, service_item, service_port, service_spec, target_by, target_port}
use Rattle.np_meaning.specs.EachPod.{AreEach}
use Rattle.np_meaning.proofs.MemberReads.{object_at-output, port_number-whole}

-- what the spec of a service is read as
abbrev ServiceSpec : Type 0
ServiceSpec = OutputOf service_spec

-- ---- selectors

entry-met : (own : List Pair) (name s : List ℕ) (value : Data) → as_str value ≡ Some s → meets_requirement (label_requirement (name, s)) own ≡ is_text_of (value_of own name) value
entry-met own name s value is = by (value_of own name)
  where
    by : (found : Option (List ℕ)) → op_allows OneOf (s ∷ []) found ≡ is_text_of found value
    by None = refl
    by (Some other) = rw is (or-false (bytes_eq s other))

entries-met : (own : List Pair) (members : Members) (pairs : List (List ℕ × List ℕ)) → pairs_of_members members ≡ Some pairs →
    list_all (λ one. meets_requirement one own) (map label_requirement pairs) ≡ have_entries own members
entries-met own no_members [] is = refl
entries-met own no_members (pair ∷ pairs) is = cc
entries-met own (member name value members) pairs is =
    let one = pairs-member name value members pairs is in
    ap (λ (all : List (List ℕ × List ℕ)). list_all (λ r. meets_requirement r own) (map label_requirement all)) one.4
    ∙ rw (entry-met own name one.0 value one.2, entries-met own members one.1 one.3) refl

selector-of : (members : Members) (pairs : List (List ℕ × List ℕ)) → pairs_of_members members ≡ Some pairs → IsServiceSelector members (selector_of pairs)
selector-of no_members [] is = refl
selector-of no_members (pair ∷ pairs) is = cc
selector-of (member name value members) [] is =
    let one = pairs-member name value members [] is in
    let never = one.4 in cc
selector-of (member name value members) (pair ∷ pairs) is = (refl, λ own. entries-met own (member name value members) (pair ∷ pairs) is)

selector-meant : (value : Data) (found : Option (List (List ℕ × List ℕ))) → optional (codes "selector") labels value ≡ Ok found →
    IsServiceSelector (entries_at (codes "selector") value) (selector_of (unwrap_or found []))
selector-meant value found is = by (member_of (codes "selector") value) found (optional-output labels (codes "selector") value found is)
  where
    by : (member : Option Data) (found : Option (List (List ℕ × List ℕ))) → IsReadOf labels member found →
        IsServiceSelector (unwrap_or (as_object (unwrap_or member (object no_members))) no_members) (selector_of (unwrap_or found []))
    by None None is = refl
    by None (Some pairs) is = absurd is
    by (Some one) None is = absurd is
    by (Some one) (Some pairs) is = selector-of (unwrap_or (as_object one) no_members) pairs (labels-output one pairs is)

-- ---- ports

named-or : (s : List ℕ) (found : Option (List ℕ)) → IsTextOr s found → s ≡ unwrap_or found []
named-or s None is = is
named-or s (Some name) is = is.0

target-named : (s : List ℕ) (found : Option (List ℕ)) (n : ℕ) → IsTextOr s found → unwrap_or (option_map Named found) (Number n) ≡ target_at None s n
target-named [] None n is = refl
target-named [] (Some name) n is = let never = is.1 in cc
target-named (byte ∷ bytes) None n is = cc
target-named (byte ∷ bytes) (Some name) n is = ap Named (sym is.0)

target-output : (value : Data) (target : Option PortName) (n : ℕ) → target_port value ≡ Ok target → unwrap_or target (Number n) ≡ target_at (as_whole value) (unwrap_or (as_str value) []) n
unfolding target_port by_number by_name
target-output value target n is = by (as_whole value) is
  where
    not_zero : (m : ℕ) → is_zero (Some (pos (suc m))) ≡ false
    not_zero m = grind (arith, nat_tests)

    numbered : (z : ℤ) → by_number z ≡ Ok target → (m : ℕ) × (z ≡ pos m) × (target ≡ Some (Number m))
    numbered z read =
        let number = bind-output (port_number z) (λ number. Ok (Some (Number number))) target read in
        (number.first, port_number-whole z number.first number.here, let after = number.after in cc)

    by : (found : Option ℤ) → target_by found value ≡ Ok target → unwrap_or target (Number n) ≡ target_at found (unwrap_or (as_str value) []) n
    by (Some (pos zero)) read = let same : target ≡ None = cc in rw same refl
    by (Some (pos (suc m))) read =
        let one = numbered (pos (suc m)) (rw (not_zero m) at read) in
        let same : one.0 ≡ suc m = let is = one.1 in cc in
        rw one.2 (ap Number same)
    by (Some (negsuc m)) read = let one = numbered (negsuc m) read in let never = one.1 in cc
    by None read =
        let name = bind-output (port_name value) (λ name. Ok (option_map Named name)) target read in
        let made : option_map Named name.first ≡ target = let after = name.after in cc in
        rw (← made) (target-named (unwrap_or (as_str value) []) name.first n (port_name-output value name.first name.here))

target-meant : (value : Data) (found : Option (Option PortName)) (n : ℕ) → optional (codes "targetPort") target_port value ≡ Ok found →
    unwrap_or (option_flatten found) (Number n) ≡ target_at (number_at (codes "targetPort") value) (text_at (codes "targetPort") value) n
target-meant value found n is = by (member_of (codes "targetPort") value) found (optional-output target_port (codes "targetPort") value found is)
  where
    by : (member : Option Data) (found : Option (Option PortName)) → IsReadOf target_port member found →
        unwrap_or (option_flatten found) (Number n) ≡ target_at (as_whole (unwrap_or member (object no_members))) (unwrap_or (as_str (unwrap_or member (object no_members))) []) n
    by None None is = refl
    by None (Some target) is = absurd is
    by (Some one) None is = absurd is
    by (Some one) (Some target) is = target-output one target n is

service_port-meant : (value : Data) (read : ServicePort) → service_port value ≡ Ok read → IsServicePort value read
unfolding service_port
service_port-meant value read is =
    let past = then-output (must_be_object value) _ read is in
    let called = bind-output (optional (codes "name") port_name value) _ read past in
    let proto = bind-output (optional (codes "protocol") protocol_name value) _ read called.after in
    let number = bind-output (required (codes "port") port value) _ read proto.after in
    let target = bind-output (optional (codes "targetPort") target_port value)
    (λ target. Ok (record { name = option_flatten called.first; proto = unwrap_or proto.first Tcp; port = number.first; target = unwrap_or (option_flatten target) (Number number.first) })) read
    number.after in
    let made : record { name = option_flatten called.first; proto = unwrap_or proto.first Tcp; port = number.first; target = unwrap_or (option_flatten target.first) (Number number.first) } ≡ read =
    let after = target.after in cc in
    subst (IsServicePort value) made (record {
      name = named-or (text_at (codes "name") value) (option_flatten called.first) (port_name-meant value called.first called.here);
      proto = protocol-meant value proto.first proto.here;
      number = number_at-required (codes "port") value number.first number.here;
      target = target-meant value target.first number.first target.here;
    })

-- ---- services

same_text : (found : Option (List ℕ)) (s : List ℕ) → bytes_eq [] s ≡ false → is_text found s ≡ bytes_eq (unwrap_or found []) s
same_text None s some = sym some
same_text (Some other) s some = refl

-- what the spec of a service says
record IsServiceSpec (value : Data) (spec : ServiceSpec) : Type 0 where
  pub selector : IsServiceSelector (entries_at (codes "selector") value) spec.selector
  pub headless : spec.headless ≡ bytes_eq (text_at (codes "clusterIP") value) (codes "None")
  pub external : spec.external ≡ bytes_eq (text_at (codes "type") value) (codes "ExternalName")
  pub ports : AreEach IsServicePort (list_at (codes "ports") value) spec.ports

service_spec-meant : (value : Data) (spec : ServiceSpec) → service_spec value ≡ Ok spec → IsServiceSpec value spec
unfolding service_spec
service_spec-meant value spec is =
    let past = then-output (must_be_object value) _ spec is in
    let kind = bind-output (optional (codes "type") text value) _ spec past in
    let ip = bind-output (optional (codes "clusterIP") text value) _ spec kind.after in
    let entries = bind-output (optional (codes "selector") labels value) _ spec ip.after in
    let ports = bind-output (listed (codes "ports") service_port value)
    (λ ports. Ok (record { selector = selector_of (unwrap_or entries.first []); headless = is_text ip.first (codes "None"); external = is_text kind.first (codes "ExternalName"); ports = ports }))
    spec entries.after in
    let made : record { selector = selector_of (unwrap_or entries.first []); headless = is_text ip.first (codes "None"); external = is_text kind.first (codes "ExternalName"); ports = ports.first }
    ≡ spec = let after = ports.after in cc in
    subst (IsServiceSpec value) made (record {
      selector = selector-meant value entries.first entries.here;
      headless = same_text ip.first (codes "None") refl ∙ ap (λ s. bytes_eq s (codes "None")) (sym (text_at-optional (codes "clusterIP") value ip.first ip.here));
      external = same_text kind.first (codes "ExternalName") refl ∙ ap (λ s. bytes_eq s (codes "ExternalName")) (sym (text_at-optional (codes "type") value kind.first kind.here));
      ports = each-output service_port IsServicePort service_port-meant (codes "ports") value ports.first ports.here;
    })

pub service-meant : (value : Data) (read : ServiceItem) → service value ≡ Ok read → IsServiceOf value read
unfolding service
service-meant value read is =
    let own = bind-output (required (codes "metadata") namespaced_name value) _ read is in
    let spec = bind-output (required (codes "spec") service_spec value) (λ spec. Ok (service_item own.first spec)) read own.after in
    let made : service_item own.first spec.first ≡ read = let after = spec.after in cc in
    let names = namespaced_name-meant (object_at (codes "metadata") value) own.first (object_at-output namespaced_name (codes "metadata") value own.first own.here) in
    let parts = service_spec-meant (object_at (codes "spec") value) spec.first (object_at-output service_spec (codes "spec") value spec.first spec.here) in
    subst (IsServiceOf value) made (record {
      names = (names.namespace, names.name);
      selector = parts.selector;
      headless = parts.headless;
      external = parts.external;
      ports = parts.ports;
    })
