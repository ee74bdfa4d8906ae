-- Specs of pods.
use Rattle.std.specs.Prelude.{List, codes, false, unwrap_or, Ok}
use Rattle.std.specs.List.{filter_map, flat_map}
use Rattle.serde_json.specs.Data.{Data}
use Rattle.np_json.specs.Prelude.{Read, flag, listed, must_be_object, optional, ◌>>=◌, ◌>>◌}
use Rattle.np_objects.specs.Ports.{container_port}
use Rattle.np_objects.specs.Types.{NamedPort, PodSpec}

-- a container: its ports that have a name
unfoldable pub container : Data → Read (List NamedPort)
container value = must_be_object value >> do Ok (filter_map (λ port. port) (← listed (codes "ports") container_port value))

-- The spec of a pod: the ports of its `containers`, one container after another. `initContainers` are not read, so the
-- named ports of a sidecar (an init container that restarts) are none of the pod's.
unfoldable pub pod_spec : Data → Read PodSpec
pod_spec value = must_be_object value >> do
  containers ← listed (codes "containers") container value
  Ok (record { ports = flat_map (λ ports. ports) containers; host_network = unwrap_or (← optional (codes "hostNetwork") flag value) false })
