-- What each object of the sample is read as. For ReadingLemmas.
use Rattle.std.proofs.Common.{◌≡◌, ℕ, ◌%◌, ◌^◌, ◌<◌, codes, false, None, Ok, decimal, refl, arith}
use Rattle.np_items.specs.Prelude.{item_of, must_be_no_list}
use Rattle.np_json.specs.Prelude.{listed, must_be_object, namespaced_name, optional, protocol_name, refuse_if, required, type_meta, under, word}
use Rattle.np_json.proofs.ReadLemmas.{name-read, port-read}
use Rattle.np_objects.specs.Prelude.{container, container_port, label_map, object_by, object_of, pod_metadata, pod_spec, port_name}
use Rattle.np_objects.specs.Namespaces as namespaces
use Rattle.np_objects.specs.Pods as pods
use Rattle.np_policies.specs.Prelude.{policy_by, policy_of}
use Rattle.np_sample.specs.Objects as spec
use Rattle.np_command_sample.proofs.ShapeLemmas.{labels-of, namespace-of}
use Rattle.np_command_sample.proofs.WordLemmas.{is_name-numbered, is_word-numbered}
use Rattle.np_command_sample.specs.Prelude.{one_label, sample_ports}
use Rattle.np_command_sample.proofs.Items.{namespace_item, pod_item}

pub item_of-namespace : (number j : ℕ) → j < spec.namespace_count → item_of number (spec.sample_namespace j) ≡ Ok (namespace_item j)
unfolding item_of must_be_no_list type_meta required optional under must_be_object refuse_if policy_of policy_by object_of object_by namespaces.namespace_object namespaces.namespace_metadata
item_of-namespace number j within = rw (name-read (spec.sample_namespace_name j) (is_name-numbered 115 j refl refl (omega arith))) refl

-- ---- pods

read_metadata : (i : ℕ) → i < 2 ^ 64 →
    pod_metadata (spec.sample_pod_metadata i) ≡ Ok (record { own = record { namespace = spec.namespace_of i; name = spec.pod_name i }; labels = one_label (codes "app") (spec.app_of i); owner = None })
unfolding pod_metadata required optional listed under must_be_object refuse_if namespaced_name label_map
read_metadata i small =
    rw (
      name-read (spec.pod_name i) (is_name-numbered 112 i refl refl small),
      namespace-of 115 (decimal (i % 5)) (is_name-numbered 115 (i % 5) refl refl (omega arith)),
      labels-of (codes "app")
          (spec.app_of i) (rw (is_word-numbered 97 (i % 7) refl (omega arith)) refl),
    ) refl

read_spec : (i : ℕ) → pod_spec (spec.sample_pod_spec (spec.sample_port i)) ≡ Ok (record { ports = sample_ports i; host_network = false })
unfolding pod_spec required optional listed under must_be_object refuse_if container container_port port_name protocol_name word
read_spec i = rw (port-read (spec.sample_port i) (omega arith) (omega arith)) refl

pub item_of-pod : (number i : ℕ) → i < 2 ^ 64 → item_of number (spec.sample_pod i) ≡ Ok (pod_item i)
unfolding item_of must_be_no_list type_meta required optional under must_be_object refuse_if policy_of policy_by object_of object_by pods.pod
item_of-pod number i small = rw (read_metadata i small, read_spec i) refl
