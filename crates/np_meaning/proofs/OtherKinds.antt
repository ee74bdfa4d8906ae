-- Objects that are no policies. For `other_kinds_are_no_policy`.
use Rattle.std.proofs.Common.{◌≡◌, ℕ, List, Bool, true, false, cond, None, codes, Ok, refl, ap}
use Rattle.std.specs.Cmp.Lexicographic.{bytes_decides}
use Rattle.std.specs.Str.{bytes_eq}
use Rattle.std.proofs.Math.Bool.{and-false}
use Rattle.serde_json.specs.Data.{Data}
use Rattle.np_json.specs.Prelude.{refuse, type_meta}
use Rattle.np_meaning.specs.Prelude.{Admin, Base, Field, Foreign, ForeignPolicy, Net, NoPolicy, TypeMeta}
use Rattle.np_json.proofs.ReadLemmas.{under-output}
use Rattle.np_policies.proofs.ReadLemmas.{bind-output}
use Rattle.np_policies.specs.Prelude.{admin_policy, base_policy, is_network_policy, is_of_type, net_policy, policy_by, policy_kind, policy_of}

-- an object whose kind is no network policy is of no kind that is one
not_of : (version kind : List ℕ) (meta : TypeMeta) → is_network_policy kind ≡ true → is_network_policy meta.kind ≡ false → is_of_type version kind meta ≡ false
not_of version kind meta ends is = by (bytes_eq meta.kind kind) refl
  where
    by : (b : Bool) → bytes_eq meta.kind kind ≡ b → is_of_type version kind meta ≡ false
    by true same =
        let kinds : meta.kind ≡ kind = (bytes_decides meta.kind kind).0 same in
        let tests = ap is_network_policy kinds in
        cc
    by false other = rw other (and-false (bytes_eq meta.api_version version))

pub no_policy : (value : Data) (meta : TypeMeta) → type_meta value ≡ Ok meta → is_network_policy meta.kind ≡ false → policy_of value ≡ Ok None
unfolding policy_of policy_by
no_policy value meta read is =
    let net = not_of (codes "networking.k8s.io/v1") (codes "NetworkPolicy") meta refl is in
    let admin = not_of (codes "policy.networking.k8s.io/v1alpha1") (codes "AdminNetworkPolicy") meta refl is in
    let base = not_of (codes "policy.networking.k8s.io/v1alpha1") (codes "BaselineAdminNetworkPolicy") meta refl is in
    let kind : policy_kind meta ≡ NoPolicy = rw (net, admin, base, is) refl in
    rw read (ap (λ k. policy_by k value) kind)

pub other_kind : (value : Data) → policy_of value ≡ Ok None → (meta : TypeMeta) × (type_meta value ≡ Ok meta) × (is_network_policy meta.kind ≡ false)
unfolding policy_of policy_by
other_kind value is =
    let read = bind-output (type_meta value) (λ meta. policy_by (policy_kind meta) value) None is in
    let meta = read.first in (
      meta,
      read.here,
      by
          (is_of_type (codes "networking.k8s.io/v1") (codes "NetworkPolicy") meta)
          (is_of_type (codes "policy.networking.k8s.io/v1alpha1") (codes "AdminNetworkPolicy") meta)
          (is_of_type (codes "policy.networking.k8s.io/v1alpha1") (codes "BaselineAdminNetworkPolicy") meta)
          (is_network_policy meta.kind) read.after,
    )
  where
    by : (net admin base network : Bool) → policy_by (cond net Net (cond admin Admin (cond base Base (cond network Foreign NoPolicy)))) value ≡ Ok None → network ≡ false
    by true admin base network is = let read = bind-output (net_policy value) _ None is in let after = read.after in cc
    by false true base network is = let read = bind-output (admin_policy value) _ None is in let after = read.after in cc
    by false false true network is = let read = bind-output (base_policy value) _ None is in let after = read.after in cc
    by false false false true is = let none = under-output (Field (codes "kind")) (refuse ForeignPolicy) None is in cc
    by false false false false is = refl
