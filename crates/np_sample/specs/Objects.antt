-- The objects of the sample cluster, as JSON. The members of each stand in the order of their names.
use Rattle.std.specs.Prelude.{ℕ, ◌+◌, ◌%◌, List, [], ◌∷◌, ◌++◌, codes, decimal}
use Rattle.serde_json.specs.Data.{Data, number, string, unsigned}
use Rattle.np_written.specs.Values.{object_with, list_with}

-- ---- JSON in short

-- an object of the API
abbrev pub api_object : List ℕ → List ℕ → Data → Data → Data
api_object version kind metadata spec = object_with (
    (codes "apiVersion", string version) ∷ (codes "kind", string kind) ∷ (codes "metadata", metadata) ∷ (codes "spec", spec) ∷ [])

-- ---- names and numbers

-- how many namespaces there are, and how many NetworkPolicies: one in each
abbrev pub namespace_count : ℕ
namespace_count = 5

abbrev pub sample_namespace_name : ℕ → List ℕ
sample_namespace_name j = codes "s" ++ decimal j

abbrev pub pod_name : ℕ → List ℕ
pod_name i = codes "p" ++ decimal i

-- the namespace of a pod
abbrev pub namespace_of : ℕ → List ℕ
namespace_of i = sample_namespace_name (i % 5)

-- the label `app` of a pod
abbrev pub app_of : ℕ → List ℕ
app_of i = codes "a" ++ decimal (i % 7)

-- the number of the port `http` of a pod
abbrev pub sample_port : ℕ → ℕ
sample_port i = 8000 + i % 3

-- the namespace from which the policy of a namespace lets connections in: the next one, and behind the last the first
abbrev pub next_of : ℕ → ℕ
next_of j = (j + 1) % 5

-- the block from which the policy of a namespace lets connections in
abbrev pub block_text : ℕ → List ℕ
block_text j = codes "10." ++ decimal j ++ codes ".0.0/16"

-- ---- namespaces

abbrev pub sample_namespace : ℕ → Data
sample_namespace j = object_with (
    (codes "apiVersion", string (codes "v1")) ∷ (codes "kind", string (codes "Namespace"))
    ∷ (codes "metadata", object_with ((codes "name", string (sample_namespace_name j)) ∷ [])) ∷ [])

-- ---- pods

abbrev pub sample_pod_metadata : ℕ → Data
sample_pod_metadata i = object_with (
    (codes "labels", object_with ((codes "app", string (app_of i)) ∷ []))
    ∷ (codes "name", string (pod_name i)) ∷ (codes "namespace", string (namespace_of i)) ∷ [])

abbrev pub sample_named_port : ℕ → Data
sample_named_port port = object_with (
    (codes "containerPort", number (unsigned port)) ∷ (codes "name", string (codes "http")) ∷ (codes "protocol", string (codes "TCP")) ∷ [])

-- one container with one port
abbrev pub sample_pod_spec : ℕ → Data
sample_pod_spec port = object_with ((codes "containers", list_with (object_with ((codes "ports", list_with (sample_named_port port ∷ [])) ∷ []) ∷ [])) ∷ [])

abbrev pub sample_pod : ℕ → Data
sample_pod i = api_object (codes "v1") (codes "Pod") (sample_pod_metadata i) (sample_pod_spec (sample_port i))

-- ---- NetworkPolicies

-- the selector of what has a label
abbrev pub with_label : List ℕ → List ℕ → Data
with_label key value = object_with ((codes "matchLabels", object_with ((key, string value) ∷ [])) ∷ [])

-- the pods of a namespace
abbrev pub namespace_peer : ℕ → Data
namespace_peer k = object_with ((codes "namespaceSelector", with_label (codes "kubernetes.io/metadata.name") (sample_namespace_name k)) ∷ [])

-- the addresses of a block
abbrev pub block_peer : ℕ → Data
block_peer j = object_with ((codes "ipBlock", object_with ((codes "cidr", string (block_text j)) ∷ [])) ∷ [])

-- a rule of one peer and one port of TCP
abbrev pub sample_net_rule : Data → Data → Data
sample_net_rule peer port = object_with (
    (codes "from", list_with (peer ∷ []))
    ∷ (codes "ports", list_with (object_with ((codes "port", port) ∷ (codes "protocol", string (codes "TCP")) ∷ []) ∷ [])) ∷ [])

-- from a namespace to the port `http`
abbrev pub from_namespace : ℕ → Data
from_namespace k = sample_net_rule (namespace_peer k) (string (codes "http"))

-- from a block to the port 443
abbrev pub from_block : ℕ → Data
from_block j = sample_net_rule (block_peer j) (number (unsigned 443))

-- it selects all pods of its namespace
abbrev pub sample_net_spec : ℕ → Data
sample_net_spec j = object_with (
    (codes "ingress", list_with (from_namespace (next_of j) ∷ from_block j ∷ [])) ∷ (codes "podSelector", object_with [])
    ∷ (codes "policyTypes", list_with (string (codes "Ingress") ∷ [])) ∷ [])

abbrev pub net_metadata : ℕ → Data
net_metadata j = object_with ((codes "name", string (codes "next")) ∷ (codes "namespace", string (sample_namespace_name j)) ∷ [])

abbrev pub sample_net_policy : ℕ → Data
sample_net_policy j = api_object (codes "networking.k8s.io/v1") (codes "NetworkPolicy") (net_metadata j) (sample_net_spec j)

-- ---- the AdminNetworkPolicy

-- the pods of all namespaces whose label `app` is `a6`
abbrev pub sample_admin_peer : Data
sample_admin_peer = object_with (
    (codes "pods", object_with ((codes "namespaceSelector", object_with []) ∷ (codes "podSelector", with_label (codes "app") (codes "a6")) ∷ [])) ∷ [])

abbrev pub sample_admin_rule : Data
sample_admin_rule = object_with ((codes "action", string (codes "Deny")) ∷ (codes "from", list_with (sample_admin_peer ∷ [])) ∷ [])

abbrev pub sample_admin_spec : Data
sample_admin_spec = object_with (
    (codes "ingress", list_with (sample_admin_rule ∷ [])) ∷ (codes "priority", number (unsigned 10))
    ∷ (codes "subject", object_with ((codes "namespaces", object_with []) ∷ [])) ∷ [])

abbrev pub sample_admin_policy : Data
sample_admin_policy = api_object (codes "policy.networking.k8s.io/v1alpha1") (codes "AdminNetworkPolicy") (object_with ((codes "name", string (codes "stop")) ∷ [])) sample_admin_spec
