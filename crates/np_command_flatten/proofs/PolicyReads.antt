-- Policies are read as they are. For ItemLemmas.
use Rattle.std.proofs.Common.{◌≡◌, ℕ, List, [], ◌∷◌, Bool, true, false, not, ◌&&◌, ◌||◌, ◌==◌, is_some, length, Option, Some, None, Ok, codes, unwrap_or, refl}
use Rattle.std.proofs.lemmas.Bool.{and_parts, not-true}
use Rattle.std.specs.List.{AllByRecursion, list_all}
use Rattle.serde_json.specs.Data.{Data, string}
use Rattle.np_items.specs.Prelude.{item_of, must_be_no_list}
use Rattle.np_json.specs.Prelude.{must_be_object, name, namespace, namespaced_name, refuse_if, required, type_meta, under}
use Rattle.np_json.proofs.ReadLemmas.{name-read}
use Rattle.np_model.specs.Prelude.{has_slash, is_name, is_word}
use Rattle.np_policies.specs.Prelude.{net_policy, net_policy_by, net_rule, net_rules, net_spec, policy_by, policy_of, policy_type, selector}
use Rattle.np_model.specs.WellPolicies.{is_well_selector}
use Rattle.np_command_flatten.specs.Prelude.{Direction, Egress, Ingress, NetPolicy, NetRule, are_printable_rules, is_printable, is_printable_rule, net_item}
use Rattle.np_manifests.specs.Manifests as manifests
use Rattle.np_command_flatten.proofs.RuleReads.{rule-read}
use Rattle.np_command_flatten.proofs.SelectorReads.{selector-read}
use Rattle.np_command_flatten.proofs.ShapeLemmas.{all-passed, listed-none, listed-read, optional-read, required-read}

-- ---- names

not_empty : (s : List ℕ) → is_name s ≡ true → (length s == 0) ≡ false
not_empty s is =
    let some = and_parts (not (length s == 0) && is_word s) (not (has_slash s)) is in
    not-true (length s == 0) (and_parts (not (length s == 0)) (is_word s) some.0).0

namespace-read : (s : List ℕ) → is_name s ≡ true → namespace (string s) ≡ Ok s
unfolding namespace refuse_if
namespace-read s is = rw (not_empty s is, is) refl

metadata-read : (one : NetPolicy) → is_name one.namespace ≡ true → is_name one.name ≡ true → namespaced_name (manifests.metadata one) ≡ Ok (record { namespace = one.namespace; name = one.name })
unfolding namespaced_name must_be_object refuse_if
metadata-read one in_namespace named =
    let value = manifests.metadata one in
    rw (
      required-read (codes "name") name value (string one.name) one.name refl (name-read one.name named),
      optional-read (codes "namespace") namespace value (string one.namespace) one.namespace refl (namespace-read one.namespace in_namespace),
    ) refl

-- ---- the spec

-- the types of a policy with these directions
abbrev types_of : Bool → Bool → List Direction
types_of true true = Ingress ∷ Egress ∷ []
types_of true false = Ingress ∷ []
types_of false true = Egress ∷ []
types_of false false = []

abbrev type_name : Direction → Data
type_name Ingress = string (codes "Ingress")
type_name Egress = string (codes "Egress")

type-read : (direction : Direction) → policy_type (type_name direction) ≡ Ok direction
unfolding policy_type
type-read Ingress = refl
type-read Egress = refl

rules-read : (direction : Direction) (all : List NetRule) → list_all is_printable_rule all ≡ true → AllByRecursion (λ rule. net_rule direction (manifests.rule_data direction rule) ≡ Ok rule) all
rules-read direction all is = all-passed is_printable_rule (λ rule. net_rule direction (manifests.rule_data direction rule) ≡ Ok rule) (rule-read direction) all is

abbrev policy_with : NetPolicy → Option (List NetRule) → Option (List NetRule) → NetPolicy
policy_with one ingress egress = record { namespace = one.namespace; name = one.name; subject = one.subject; ingress = ingress; egress = egress }

spec-read : (one : NetPolicy) (ingress egress : Option (List NetRule)) → is_well_selector one.subject ≡ true → (is_some ingress || is_some egress) ≡ true → are_printable_rules ingress ≡ true →
    are_printable_rules egress ≡ true
    → net_spec (manifests.spec (policy_with one ingress egress)) ≡ Ok
    (record { subject = one.subject; types = types_of (is_some ingress) (is_some egress); ingress = unwrap_or ingress []; egress = unwrap_or egress [] })
unfolding net_spec net_rules must_be_object refuse_if
spec-read one None None subject some first second = cc
spec-read one (Some ingress) None subject some first second =
    let value = manifests.spec (policy_with one (Some ingress) None) in
    rw (
      optional-read (codes "podSelector") selector value (manifests.selector_data one.subject) one.subject refl (selector-read one.subject subject),
      listed-read (codes "policyTypes") policy_type type_name value (Ingress ∷ []) refl (type-read Ingress, tt),
      listed-read (codes "ingress") (net_rule Ingress) (manifests.rule_data Ingress) value ingress refl (rules-read Ingress ingress first),
      listed-none (codes "egress") (net_rule Egress) value refl,
    ) refl
spec-read one None (Some egress) subject some first second =
    let value = manifests.spec (policy_with one None (Some egress)) in
    rw (
      optional-read (codes "podSelector") selector value (manifests.selector_data one.subject) one.subject refl (selector-read one.subject subject),
      listed-read (codes "policyTypes") policy_type type_name value (Egress ∷ []) refl (type-read Egress, tt),
      listed-none (codes "ingress") (net_rule Ingress) value refl,
      listed-read (codes "egress") (net_rule Egress) (manifests.rule_data Egress) value egress refl (rules-read Egress egress second),
    ) refl
spec-read one (Some ingress) (Some egress) subject some first second =
    let value = manifests.spec (policy_with one (Some ingress) (Some egress)) in
    rw (
      optional-read (codes "podSelector") selector value (manifests.selector_data one.subject) one.subject refl (selector-read one.subject subject),
      listed-read (codes "policyTypes") policy_type type_name value (Ingress ∷ Egress ∷ []) refl (type-read Ingress, (type-read Egress, tt)),
      listed-read (codes "ingress") (net_rule Ingress) (manifests.rule_data Ingress) value ingress refl (rules-read Ingress ingress first),
      listed-read (codes "egress") (net_rule Egress) (manifests.rule_data Egress) value egress refl (rules-read Egress egress second),
    ) refl

-- the policy of a name, and of a spec with these directions
made-policy : (one : NetPolicy) (ingress egress : Option (List NetRule)) → (is_some ingress || is_some egress) ≡ true
    → net_policy_by (record { namespace = one.namespace; name = one.name })
    (record { subject = one.subject; types = types_of (is_some ingress) (is_some egress); ingress = unwrap_or ingress []; egress = unwrap_or egress [] }) ≡ policy_with one ingress egress
unfolding net_policy_by
made-policy one None None some = cc
made-policy one (Some ingress) None some = refl
made-policy one None (Some egress) some = refl
made-policy one (Some ingress) (Some egress) some = refl

-- ---- the whole

policy-read : (one : NetPolicy) → is_printable one ≡ true → net_policy (manifests.policy one) ≡ Ok one
unfolding net_policy
policy-read one is =
    let egress = and_parts _ (are_printable_rules one.egress) is in
    let ingress = and_parts _ (are_printable_rules one.ingress) egress.0 in
    let some = and_parts _ (is_some one.ingress || is_some one.egress) ingress.0 in
    let subject = and_parts _ (is_well_selector one.subject) some.0 in
    let names = and_parts (is_name one.namespace) (is_name one.name) subject.0 in
    let value = manifests.policy one in
    rw (
      required-read (codes "metadata") namespaced_name value (manifests.metadata one) _ refl (metadata-read one names.0 names.1),
      optional-read (codes "spec") net_spec value (manifests.spec one) _ refl (spec-read one one.ingress one.egress subject.1 some.1 ingress.1 egress.1),
      made-policy one one.ingress one.egress some.1,
    ) refl

pub item-read : (number : ℕ) (one : NetPolicy) → is_printable one ≡ true → item_of number (manifests.policy one) ≡ Ok (net_item one)
unfolding item_of must_be_no_list type_meta policy_of policy_by required under must_be_object refuse_if
item-read number one is = rw (policy-read one is) refl
