-- The estate of the sample cluster.
use Rattle.std.specs.Prelude.{ℕ, ◌+◌, ◌*◌, ◌^◌, List, [], ◌∷◌, codes, map, Some, None, true}
use Rattle.std.specs.List.{range_with_len}
use Rattle.np_addr.specs.declared.cidr.Cidr.{Cidr}
use Rattle.np_addr.specs.declared.cidr.Cidr.TheVariants as cidr
use Rattle.np_conns.specs.declared.proto.Proto.TheVariants.{Tcp}
use Rattle.np_command_sample.specs.Types.{AdminPolicy, EstateLists, NetPolicy, Pod}
use Rattle.np_labels.specs.Prelude.{label_requirement}
use Rattle.np_labels.specs.declared.pair.Pair.{Pair}
use Rattle.np_labels.specs.declared.selector.Selector.{Selector}
use Rattle.np_model.specs.declared.named_port.NamedPort.{NamedPort}
use Rattle.np_policies.specs.Prelude.{everything}
use Rattle.np_model.specs.declared.admin_policy.Action.TheVariants.{Deny}
use Rattle.np_model.specs.declared.admin_policy.AdminPeer.TheVariants as admin_peer
use Rattle.np_model.specs.declared.admin_policy.AdminRule.{AdminRule}
use Rattle.np_model.specs.declared.network_policy.NetPeer.TheVariants as net_peer
use Rattle.np_model.specs.declared.network_policy.NetPort.TheVariants as net_port
use Rattle.np_model.specs.declared.network_policy.NetRule.{NetRule}
use Rattle.np_sample.specs.Prelude.{app_of, namespace_count, namespace_of, next_of, pod_name, sample_namespace_name, sample_port}

-- ---- parts

-- the labels of what has one label
abbrev pub one_label : List ℕ → List ℕ → List Pair
one_label key value = record { key = key; value = value } ∷ []

-- the selector of what has that label
abbrev pub label_selector : List ℕ → List ℕ → Selector
label_selector key value = record { requirements = label_requirement (key, value) ∷ [] }

-- ---- pods

-- the port of a pod
abbrev pub sample_ports : ℕ → List NamedPort
sample_ports i = record { name = codes "http"; proto = Tcp; number = sample_port i } ∷ []

-- a pod: its namespace has the label of its name alone, and no one owns the pod but itself
abbrev pub estate_pod : ℕ → Pod
estate_pod i = record {
  namespace = namespace_of i;
  namespace_labels = one_label (codes "kubernetes.io/metadata.name") (namespace_of i);
  name = pod_name i;
  labels = one_label (codes "app") (app_of i);
  ports = sample_ports i;
  addresses = [];
  owner = record { kind = codes "Pod"; name = pod_name i };
  listed = true;
}

-- ---- policies

-- the pods of a namespace, on the port that the receiver calls `http`
abbrev pub from_pods : ℕ → NetRule
from_pods k = record {
  peers = net_peer.Pods (Some (label_selector (codes "kubernetes.io/metadata.name") (sample_namespace_name k))) None ∷ [];
  ports = net_port.Named Tcp (codes "http") ∷ [];
}

-- 10.j.0.0/16
abbrev pub sample_block : ℕ → Cidr
sample_block j = cidr.Four (10 * 2 ^ 24 + j * 2 ^ 16) 16

-- the addresses of a block, on the port 443
abbrev pub from_addresses : ℕ → NetRule
from_addresses j = record { peers = net_peer.Block (sample_block j) [] ∷ []; ports = net_port.Span Tcp 443 443 ∷ [] }

-- what comes in to the pods of a namespace
abbrev pub estate_net_policy : ℕ → NetPolicy
estate_net_policy j = record {
  namespace = sample_namespace_name j;
  name = codes "next";
  subject = everything;
  ingress = Some (from_pods (next_of j) ∷ from_addresses j ∷ []);
  egress = None;
}

-- nothing comes in from the pods whose label `app` is `a6`
abbrev pub deny_pods : AdminRule
deny_pods = record { action = Deny; peers = admin_peer.Pods everything (label_selector (codes "app") (codes "a6")) ∷ []; ports = [] }

-- of all pods
abbrev pub estate_admin_policy : AdminPolicy
estate_admin_policy = record {
  name = codes "stop";
  priority = 10;
  subject = record { namespaces = everything; pods = everything };
  ingress = deny_pods ∷ [];
  egress = [];
}

-- ---- all of it

-- n pods, the policy of each namespace, and the admin policy; nothing was left out
abbrev pub sample_estate : ℕ → EstateLists
sample_estate n = record {
  pods = map estate_pod (range_with_len 0 n);
  net_policies = map estate_net_policy (range_with_len 0 namespace_count);
  admin_policies = estate_admin_policy ∷ [];
  baseline = None;
  services = [];
  ingresses = [];
  notes = record { host = 0; finished = 0; skipped = 0; unaddressed = 0 };
}
