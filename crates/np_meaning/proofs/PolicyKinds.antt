-- A policy that was read is of a kind, and was read by the shape of that kind. For AdminMeant, NetworkMeant and TypesMeaning.
use Rattle.std.proofs.Common.{◌≡◌, ℕ, List, Bool, true, false, ◌&&◌, cond, Some, codes, Ok, refl, ap, subst, ◌∙◌}
use Rattle.std.specs.Cmp.Lexicographic.{bytes_decides}
use Rattle.std.specs.Str.{bytes_eq}
use Rattle.serde_json.specs.Data.{Data}
use Rattle.serde_json.specs.Find.{as_str}
use Rattle.np_json.specs.Prelude.{must_be_object, refuse, required, text, type_meta}
use Rattle.np_meaning.specs.Prelude.{Admin, AdminPolicy, Base, BasePolicy, Field, Foreign, ForeignPolicy, IsOfKind, Net, NetPolicy, NoPolicy, Policy, PolicyKind, TypeMeta}
use Rattle.np_json.proofs.ReadLemmas.{under-output}
use Rattle.np_policies.proofs.ReadLemmas.{bind-output, then-output}
use Rattle.np_meaning.proofs.MemberReads.{of_type-output, text_at-output}
use Rattle.np_policies.specs.Prelude.{admin_policy, base_policy, is_network_policy, is_of_type, net_policy, policy_by, policy_kind, policy_of}
use Rattle.np_policies.specs.declared.policy.Policy.TheVariants as policy

-- the kind of a policy, and that the shape of its kind read it
abbrev IsReadBy : PolicyKind → Data → Policy → Type 0
IsReadBy kind value (policy.Net read) = (kind ≡ Net) × (net_policy value ≡ Ok read)
IsReadBy kind value (policy.Admin read) = (kind ≡ Admin) × (admin_policy value ≡ Ok read)
IsReadBy kind value (policy.Base read) = (kind ≡ Base) × (base_policy value ≡ Ok read)

by_kind-output : (kind : PolicyKind) (value : Data) (read : Policy) → policy_by kind value ≡ Ok (Some read) → IsReadBy kind value read
unfolding policy_by
by_kind-output Net value read is =
    let one = bind-output (net_policy value) (λ one. Ok (Some (policy.Net one))) (Some read) is in
    let made : policy.Net one.first ≡ read = let after = one.after in cc in
    subst (IsReadBy Net value) made (refl, one.here)
by_kind-output Admin value read is =
    let one = bind-output (admin_policy value) (λ one. Ok (Some (policy.Admin one))) (Some read) is in
    let made : policy.Admin one.first ≡ read = let after = one.after in cc in
    subst (IsReadBy Admin value) made (refl, one.here)
by_kind-output Base value read is =
    let one = bind-output (base_policy value) (λ one. Ok (Some (policy.Base one))) (Some read) is in
    let made : policy.Base one.first ≡ read = let after = one.after in cc in
    subst (IsReadBy Base value) made (refl, one.here)
by_kind-output Foreign value read is = let none = under-output (Field (codes "kind")) (refuse ForeignPolicy) (Some read) is in cc
by_kind-output NoPolicy value read is = cc

-- the type of an object is what its members say
meant_by : (version kind : List ℕ) (value : Data) (meta : TypeMeta) → type_meta value ≡ Ok meta → is_of_type version kind meta ≡ true → IsOfKind version kind value
unfolding type_meta
meant_by version kind value meta read is =
    let past = then-output (must_be_object value) _ meta read in
    let first = bind-output (required (codes "apiVersion") text value) _ meta past in
    let second = bind-output (required (codes "kind") text value) (λ kind. Ok (record { api_version = first.first; kind = kind })) meta first.after in
    let made : record { api_version = first.first; kind = second.first } ≡ meta = let after = second.after in cc in
    let both = by (bytes_eq meta.api_version version) refl (bytes_eq meta.kind kind) refl is in
    let texts = λ (d : Data) (s : List ℕ). of_type-output (as_str d) s in (
      text_at-output text texts (codes "apiVersion") value first.first first.here ∙ ap (λ (m : TypeMeta). m.api_version) made ∙ both.0,
      text_at-output text texts (codes "kind") value second.first second.here ∙ ap (λ (m : TypeMeta). m.kind) made ∙ both.1,
    )
  where
    by : (one : Bool) → bytes_eq meta.api_version version ≡ one → (other : Bool) → bytes_eq meta.kind kind ≡ other → (one && other) ≡ true → (meta.api_version ≡ version) × (meta.kind ≡ kind)
    by true here true there both = ((bytes_decides meta.api_version version).0 here, (bytes_decides meta.kind kind).0 there)
    by true here false there both = cc
    by false here other there both = cc

-- which test each kind passes
record IsTested (net admin base : Bool) (kind : PolicyKind) : Type 0 where
  pub is_net : kind ≡ Net → net ≡ true
  pub is_admin : kind ≡ Admin → admin ≡ true
  pub is_base : kind ≡ Base → base ≡ true

tested : (net admin base network : Bool) → IsTested net admin base (cond net Net (cond admin Admin (cond base Base (cond network Foreign NoPolicy))))
tested true admin base network = record { is_net = λ same. refl; is_admin = λ same. cc; is_base = λ same. cc }
tested false true base network = record { is_net = λ same. cc; is_admin = λ same. refl; is_base = λ same. cc }
tested false false true network = record { is_net = λ same. cc; is_admin = λ same. cc; is_base = λ same. refl }
tested false false false true = record { is_net = λ same. cc; is_admin = λ same. cc; is_base = λ same. cc }
tested false false false false = record { is_net = λ same. cc; is_admin = λ same. cc; is_base = λ same. cc }

policy_kind-tested : (meta : TypeMeta) →
    IsTested (is_of_type (codes "networking.k8s.io/v1") (codes "NetworkPolicy") meta) (is_of_type (codes "policy.networking.k8s.io/v1alpha1") (codes "AdminNetworkPolicy") meta)
    (is_of_type (codes "policy.networking.k8s.io/v1alpha1") (codes "BaselineAdminNetworkPolicy") meta) (policy_kind meta)
policy_kind-tested meta =
    tested (is_of_type (codes "networking.k8s.io/v1") (codes "NetworkPolicy") meta) (is_of_type (codes "policy.networking.k8s.io/v1alpha1") (codes "AdminNetworkPolicy") meta)
    (is_of_type (codes "policy.networking.k8s.io/v1alpha1") (codes "BaselineAdminNetworkPolicy") meta) (is_network_policy meta.kind)

-- the type of an object that was read as a policy, and that the shape of its kind read it
record IsKindRead (value : Data) (read : Policy) : Type 0 where
  pub meta : TypeMeta
  pub here : type_meta value ≡ Ok meta
  pub by : IsReadBy (policy_kind meta) value read

policy_of-output : (value : Data) (read : Policy) → policy_of value ≡ Ok (Some read) → IsKindRead value read
unfolding policy_of
policy_of-output value read is =
    let meta = bind-output (type_meta value) (λ meta. policy_by (policy_kind meta) value) (Some read) is in
    record { meta = meta.first; here = meta.here; by = by_kind-output (policy_kind meta.first) value read meta.after }

pub net-read : (value : Data) (read : NetPolicy) → policy_of value ≡ Ok (Some (policy.Net read)) → IsOfKind (codes "networking.k8s.io/v1") (codes "NetworkPolicy") value × (net_policy value ≡ Ok read)
net-read value read is =
    let one = policy_of-output value (policy.Net read) is in
    let by = one.by in
    (meant_by (codes "networking.k8s.io/v1") (codes "NetworkPolicy") value one.meta one.here ((policy_kind-tested one.meta).is_net by.0), by.1)

pub admin-read : (value : Data) (read : AdminPolicy) → policy_of value ≡ Ok (Some (policy.Admin read)) →
    IsOfKind (codes "policy.networking.k8s.io/v1alpha1") (codes "AdminNetworkPolicy") value × (admin_policy value ≡ Ok read)
admin-read value read is =
    let one = policy_of-output value (policy.Admin read) is in
    let by = one.by in
    (meant_by (codes "policy.networking.k8s.io/v1alpha1") (codes "AdminNetworkPolicy") value one.meta one.here ((policy_kind-tested one.meta).is_admin by.0), by.1)

pub base-read : (value : Data) (read : BasePolicy) → policy_of value ≡ Ok (Some (policy.Base read)) →
    IsOfKind (codes "policy.networking.k8s.io/v1alpha1") (codes "BaselineAdminNetworkPolicy") value × (base_policy value ≡ Ok read)
base-read value read is =
    let one = policy_of-output value (policy.Base read) is in
    let by = one.by in
    (meant_by (codes "policy.networking.k8s.io/v1alpha1") (codes "BaselineAdminNetworkPolicy") value one.meta one.here ((policy_kind-tested one.meta).is_base by.0), by.1)
