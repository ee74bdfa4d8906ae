-- Which policy an object is, and what it is read as.
use Rattle.std.specs.Prelude.{ℕ, List, Bool, ◌&&◌, if◌then◌else◌, nat_eq, Option, Some, None, codes, Ok}
use Rattle.std.specs.List.{ends_with}
use Rattle.std.specs.Str.{bytes_eq}
use Rattle.serde_json.specs.Data.{Data}
use Rattle.np_json.specs.Prelude.{Read, refuse, type_meta, under, ◌>>=◌}
use Rattle.np_policies.specs.Types.{Admin, Base, Field, Foreign, ForeignPolicy, Net, NoPolicy, Policy, PolicyKind, TypeMeta}
use Rattle.np_policies.specs.AdminPolicies.{admin_policy, base_policy}
use Rattle.np_policies.specs.NetworkPolicies.{net_policy}
use Rattle.np_policies.specs.declared.policy.Policy.TheVariants as policy

-- whether an object is of a version and kind
abbrev pub is_of_type : List ℕ → List ℕ → TypeMeta → Bool
is_of_type version kind meta = bytes_eq meta.api_version version && bytes_eq meta.kind kind

-- whether a kind is a network policy of any sort: its name ends in `NetworkPolicy`, whatever project it is of
abbrev pub is_network_policy : List ℕ → Bool
is_network_policy kind = ends_with nat_eq kind (codes "NetworkPolicy")

-- Which policy an object is, by its version and kind. One of another project, as a CiliumNetworkPolicy, or of another
-- version is foreign.
abbrev pub policy_kind : TypeMeta → PolicyKind
policy_kind meta =
    if is_of_type (codes "networking.k8s.io/v1") (codes "NetworkPolicy") meta then Net
    else if is_of_type (codes "policy.networking.k8s.io/v1alpha1") (codes "AdminNetworkPolicy") meta then Admin
    else if is_of_type (codes "policy.networking.k8s.io/v1alpha1") (codes "BaselineAdminNetworkPolicy") meta then Base
    else if is_network_policy meta.kind then Foreign
    else NoPolicy

-- the policy of that kind; inputs with a foreign one are refused
unfoldable pub policy_by : PolicyKind → Data → Read (Option Policy)
policy_by Net value = do Ok (Some (policy.Net (← net_policy value)))
policy_by Admin value = do Ok (Some (policy.Admin (← admin_policy value)))
policy_by Base value = do Ok (Some (policy.Base (← base_policy value)))
policy_by Foreign value = under (Field (codes "kind")) (refuse ForeignPolicy)
policy_by NoPolicy value = Ok None

-- the policy that an object is, if it is one
unfoldable pub policy_of : Data → Read (Option Policy)
policy_of value = type_meta value >>= λ meta. policy_by (policy_kind meta) value
