-- The directions of a NetworkPolicy that was read are the types of its spec.
-- For `network_policies_isolate_by_their_types` and `policy_types_mean_their_members`.
use Rattle.std.proofs.Common.{◌≡◌, ℕ, List, [], ◌∷◌, length, Bool, true, false, cond, ◌==◌, is_some, Option, Some, None, unwrap_or, codes, Ok, refl, sym, subst, ◌∙◌, arith}
use Rattle.std.proofs.lemmas.Bool.Decides.{nat_tests}
use Rattle.std.specs.Cmp.Lexicographic.{bytes_decides}
use Rattle.std.specs.Prelude.{IfSome}
use Rattle.std.specs.Str.{bytes_eq}
use Rattle.serde_json.specs.Data.{Data, object, Items, no_items, item, no_members}
use Rattle.serde_json.specs.Find.{as_str}
use Rattle.np_json.specs.Prelude.{Read, each_item, listed, member_of, must_be_object, namespaced_name, of_type, optional, refuse_if, required, text, under}
use Rattle.np_meaning.specs.Prelude.{Direction, Egress, Ingress, NamespacedName, NetPolicy, NetRule, NetSpec, Selector, has_egress, has_ingress, is_empty, is_text, object_at, spec_of}
use Rattle.np_meaning.proofs.PolicyKinds.{net-read}
use Rattle.np_policies.proofs.ReadLemmas.{bind-output, then-output, optional-output, listed-output, each_item-output, IsOptional}
use Rattle.np_meaning.proofs.MemberReads.{list_any-each_item, of_type-output}
use Rattle.np_policies.specs.Prelude.{direction_named, empty_spec, everything, has_direction, is_same_direction, items_at, net_policy, net_policy_by, net_rule, net_rules, net_spec, policy_of, policy_type, rules_if, selector}
use Rattle.np_policies.specs.declared.policy.Policy.TheVariants as policy

-- a type that was read is the text of its item
named_ingress : (one other : Bool) (read : Direction) → cond one (Some Ingress) (cond other (Some Egress) None) ≡ Some read → is_same_direction read Ingress ≡ one
named_ingress true other Ingress is = refl
named_ingress true other Egress is = cc
named_ingress false true Ingress is = cc
named_ingress false true Egress is = refl
named_ingress false false read is = cc

named_egress : (s : List ℕ) (read : Direction) → direction_named s ≡ Some read → is_same_direction read Egress ≡ bytes_eq s (codes "Egress")
named_egress s read is = by (bytes_eq s (codes "Ingress")) refl (bytes_eq s (codes "Egress")) refl read is
  where
    by : (one : Bool) → bytes_eq s (codes "Ingress") ≡ one → (other : Bool) → bytes_eq s (codes "Egress") ≡ other → (read : Direction) →
        cond one (Some Ingress) (cond other (Some Egress) None) ≡ Some read → is_same_direction read Egress ≡ other
    by true here true there read is =
        let same = (bytes_decides s (codes "Ingress")).0 here in
        let off : bytes_eq (codes "Ingress") (codes "Egress") ≡ true = subst (λ (name : List ℕ). bytes_eq name (codes "Egress") ≡ true) same there in
        cc
    by true here false there Ingress is = refl
    by true here false there Egress is = cc
    by false here true there Ingress is = cc
    by false here true there Egress is = refl
    by false here false there read is = cc

ingress_alike : (value : Data) (read : Direction) → policy_type value ≡ Ok read → is_same_direction read Ingress ≡ is_text value (codes "Ingress")
unfolding policy_type
ingress_alike value read is =
    let name = bind-output (text value) (λ s. of_type (direction_named s)) read is in
    let named = of_type-output (direction_named name.first) read name.after in
    rw (of_type-output (as_str value) name.first name.here) (named_ingress (bytes_eq name.first (codes "Ingress")) (bytes_eq name.first (codes "Egress")) read named)

egress_alike : (value : Data) (read : Direction) → policy_type value ≡ Ok read → is_same_direction read Egress ≡ is_text value (codes "Egress")
unfolding policy_type
egress_alike value read is =
    let name = bind-output (text value) (λ s. of_type (direction_named s)) read is in
    let named = of_type-output (direction_named name.first) read name.after in
    rw (of_type-output (as_str value) name.first name.here) (named_egress name.first read named)

-- there are no outputs exactly where there are no items
none-each_item : {A : Type 0} (shape : Data → Read A) (items : Items) (outputs : List A) → each_item shape 0 items ≡ Ok outputs → (length outputs == 0) ≡ is_empty items
none-each_item shape no_items [] is = refl
none-each_item shape no_items (output ∷ outputs) is = cc
none-each_item shape (item value items) outputs is =
    let each = each_item-output shape 0 value items outputs is in
    rw each.are (grind (arith, nat_tests))

-- what a spec that was read says of its pods and of the two directions
record IsSpecOf (value : Data) (spec : NetSpec) : Type 0 where
  pub subject : selector (object_at (codes "podSelector") value) ≡ Ok spec.subject
  pub ingress : has_direction spec Ingress ≡ has_ingress value
  pub egress : has_direction spec Egress ≡ has_egress value
  pub ingress_rules : net_rules Ingress value ≡ Ok spec.ingress
  pub egress_rules : net_rules Egress value ≡ Ok spec.egress

-- a selector that is missing is that which all pods meet
selected : (member : Option Data) (found : Option Selector) → IsOptional selector member found → selector (unwrap_or member (object no_members)) ≡ Ok (unwrap_or found everything)
unfolding selector must_be_object refuse_if optional listed under
selected member None is = rw is refl
selected member (Some read) is = rw is.there is.read

net_spec-output : (value : Data) (spec : NetSpec) → net_spec value ≡ Ok spec → IsSpecOf value spec
unfolding net_spec net_rules
net_spec-output value spec is =
    let past = then-output (must_be_object value) _ spec is in
    let pods = bind-output (optional (codes "podSelector") selector value) _ spec past in
    let types = bind-output (listed (codes "policyTypes") policy_type value) _ spec pods.after in
    let ingress = bind-output (net_rules Ingress value) _ spec types.after in
    let egress = bind-output (net_rules Egress value) (λ egress. Ok (record { subject = unwrap_or pods.first everything; types = types.first; ingress = ingress.first; egress = egress })) spec
    ingress.after in
    let made : record { subject = unwrap_or pods.first everything; types = types.first; ingress = ingress.first; egress = egress.first } ≡ spec = let after = egress.after in cc in
    let items = listed-output policy_type (codes "policyTypes") value types.first types.here in
    let rules = listed-output (net_rule Egress) (codes "egress") value egress.first egress.here in
    let none = none-each_item policy_type (items_at (codes "policyTypes") value) types.first items in
    let no_rule = none-each_item (net_rule Egress) (items_at (codes "egress") value) egress.first rules in
    let lists_ingress = list_any-each_item policy_type (λ listed. is_same_direction listed Ingress) (λ d. is_text d (codes "Ingress")) ingress_alike 0 (items_at (codes "policyTypes") value) types.first items in
    let lists_egress = list_any-each_item policy_type (λ listed. is_same_direction listed Egress) (λ d. is_text d (codes "Egress")) egress_alike 0 (items_at (codes "policyTypes") value) types.first items in
    subst (IsSpecOf value) made (record {
      subject = selected (member_of (codes "podSelector") value) pods.first (optional-output selector (codes "podSelector") value pods.first pods.here);
      ingress = rw (none, lists_ingress) refl;
      egress = rw (none, no_rule, lists_egress) refl;
      ingress_rules = ingress.here;
      egress_rules = egress.here;
    })

empty_spec-is : IsSpecOf (object no_members) empty_spec
unfolding selector must_be_object refuse_if optional net_rules listed under
empty_spec-is = record { subject = refl; ingress = refl; egress = refl; ingress_rules = refl; egress_rules = refl }

spec_or_empty : (member : Option Data) (spec : Option NetSpec) → IsOptional net_spec member spec → IsSpecOf (unwrap_or member (object no_members)) (unwrap_or spec empty_spec)
spec_or_empty member None is = subst (λ (found : Option Data). IsSpecOf (unwrap_or found (object no_members)) empty_spec) (sym is) empty_spec-is
spec_or_empty member (Some spec) is = subst (λ (found : Option Data). IsSpecOf (unwrap_or found (object no_members)) spec) (sym is.there) (net_spec-output is.found spec is.read)

there_if : (has : Bool) (rules : List NetRule) → is_some (rules_if has rules) ≡ has
there_if true rules = refl
there_if false rules = refl

read_if : (has : Bool) (rules : List NetRule) (read : Read (List NetRule)) → read ≡ Ok rules → IfSome (rules_if has rules) (λ found. read ≡ Ok found)
read_if true rules read is = is
read_if false rules read is = tt

-- what a policy that was read has of its pods and of the two directions
pub record IsPolicyOf (spec : Data) (read : NetPolicy) : Type 0 where
  pub subject : selector (object_at (codes "podSelector") spec) ≡ Ok read.subject
  pub ingress : is_some read.ingress ≡ has_ingress spec
  pub egress : is_some read.egress ≡ has_egress spec
  pub ingress_rules : IfSome read.ingress (λ rules. net_rules Ingress spec ≡ Ok rules)
  pub egress_rules : IfSome read.egress (λ rules. net_rules Egress spec ≡ Ok rules)

net_policy_by-is : (value : Data) (meta : NamespacedName) (spec : NetSpec) → IsSpecOf value spec → IsPolicyOf value (net_policy_by meta spec)
unfolding net_policy_by
net_policy_by-is value meta spec is = record {
  subject = is.subject;
  ingress = there_if (has_direction spec Ingress) spec.ingress ∙ is.ingress;
  egress = there_if (has_direction spec Egress) spec.egress ∙ is.egress;
  ingress_rules = read_if (has_direction spec Ingress) spec.ingress (net_rules Ingress value) is.ingress_rules;
  egress_rules = read_if (has_direction spec Egress) spec.egress (net_rules Egress value) is.egress_rules;
}

by_shape : (value : Data) (read : NetPolicy) → net_policy value ≡ Ok read → IsPolicyOf (spec_of value) read
unfolding net_policy
by_shape value read is =
    let meta = bind-output (required (codes "metadata") namespaced_name value) _ read is in
    let spec = bind-output (optional (codes "spec") net_spec value) (λ spec. Ok (net_policy_by meta.first (unwrap_or spec empty_spec))) read meta.after in
    let made : net_policy_by meta.first (unwrap_or spec.first empty_spec) ≡ read = let after = spec.after in cc in
    let found = spec_or_empty (member_of (codes "spec") value) spec.first (optional-output net_spec (codes "spec") value spec.first spec.here) in
    subst (IsPolicyOf (spec_of value)) made (net_policy_by-is (spec_of value) meta.first (unwrap_or spec.first empty_spec) found)

-- the directions of a policy that was read are the types of its spec
pub types-meant : (value : Data) (read : NetPolicy) → policy_of value ≡ Ok (Some (policy.Net read)) → IsPolicyOf (spec_of value) read
types-meant value read is = by_shape value read (net-read value read is).1
