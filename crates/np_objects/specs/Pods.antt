-- Pods.
use Rattle.std.specs.Prelude.{[], codes, unwrap_or, Ok}
use Rattle.serde_json.specs.Data.{Data}
use Rattle.np_json.specs.Prelude.{Read, listed, namespaced_name, optional, required, ◌>>=◌}
use Rattle.np_objects.specs.Labels.{label_map}
use Rattle.np_objects.specs.Owners.{owner_reference, owner_of}
use Rattle.np_objects.specs.PodSpecs.{pod_spec}
use Rattle.np_objects.specs.Statuses.{pod_status, no_status}
use Rattle.np_objects.specs.declared.owner_reference.Dependent.TheVariants as dependent
use Rattle.np_objects.specs.Types.{PodItem, PodMetadata, PodSpec, PodStatus}

-- the metadata of a pod: first the name and the namespace
unfoldable pub pod_metadata : Data → Read PodMetadata
pod_metadata value = do
  own ← namespaced_name value
  labels ← optional (codes "labels") label_map value
  references ← listed (codes "ownerReferences") owner_reference value
  Ok (record { own = own; labels = unwrap_or labels []; owner = owner_of dependent.Pod references })

abbrev pub pod_item : PodMetadata → PodSpec → PodStatus → PodItem
pod_item metadata spec status = record {
  namespace = metadata.own.namespace;
  name = metadata.own.name;
  labels = metadata.labels;
  owner = metadata.owner;
  ports = spec.ports;
  addresses = status.addresses;
  host_network = spec.host_network;
  finished = status.finished;
}

-- a pod
unfoldable pub pod : Data → Read PodItem
pod value = do
  metadata ← required (codes "metadata") pod_metadata value
  spec ← required (codes "spec") pod_spec value
  Ok (pod_item metadata spec (unwrap_or (← optional (codes "status") pod_status value) no_status))
