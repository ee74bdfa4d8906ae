-- The definitions and types of this crate that its proofs and the crates above speak of, one import line a file.
pub use Rattle.np_sample.specs.Objects.{api_object, app_of, block_peer, block_text, from_block, from_namespace, namespace_count, namespace_of, namespace_peer, net_metadata, next_of, pod_name, sample_admin_peer, sample_admin_policy, sample_admin_rule, sample_admin_spec, sample_named_port, sample_namespace, sample_namespace_name, sample_net_policy, sample_net_rule, sample_net_spec, sample_pod, sample_pod_metadata, sample_pod_spec, sample_port, with_label}
pub use Rattle.np_sample.specs.Sample.{list_object, sample_objects, sample_value}
unfoldable pub use Rattle.np_sample.specs.Sample.{sample_text}
