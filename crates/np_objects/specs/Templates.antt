-- Templates of pods.
use Rattle.std.specs.Prelude.{List, [], codes, unwrap_or, Ok}
use Rattle.serde_json.specs.Data.{Data}
use Rattle.np_json.specs.Prelude.{Read, must_be_object, optional, optional_or, required, ◌>>=◌, ◌>>◌}
use Rattle.np_objects.specs.Types.{Pair, Template}
use Rattle.np_objects.specs.Labels.{label_map}
use Rattle.np_objects.specs.PodSpecs.{pod_spec}

-- the metadata of a template: its labels
unfoldable pub template_metadata : Data → Read (List Pair)
template_metadata value = must_be_object value >> optional_or [] (codes "labels") label_map value

-- the template of a pod
unfoldable pub template : Data → Read Template
template value = must_be_object value >> do
  labels ← optional (codes "metadata") template_metadata value
  spec ← required (codes "spec") pod_spec value
  Ok (record { labels = unwrap_or labels []; ports = spec.ports; host_network = spec.host_network })
