-- The definitions and types of this crate that its proofs and the crates above speak of, one import line a file.
pub use Rattle.np_objects.specs.ControllerKinds.{is_controller_kind, kind_name, kinds}
pub use Rattle.np_objects.specs.Controllers.{controller_item, controller_spec, is_zero, no_spec}
unfoldable pub use Rattle.np_objects.specs.Controllers.{controller, controller_metadata, cron_job_spec, job_template, replicated_spec, template_spec}
pub use Rattle.np_objects.specs.Ingresses.{has_a_name, ingress_item, is_numbered, is_one, number_or_name}
unfoldable pub use Rattle.np_objects.specs.Ingresses.{backend, backend_port, backend_service, http, ingress, ingress_spec, path, rule}
unfoldable pub use Rattle.np_objects.specs.Labels.{label_map}
pub use Rattle.np_objects.specs.Lists.{unless_empty}
unfoldable pub use Rattle.np_objects.specs.Namespaces.{namespace_metadata, namespace_object}
pub use Rattle.np_objects.specs.Objects.{controllers, kinds_of, object_kind}
unfoldable pub use Rattle.np_objects.specs.Objects.{object_by, object_of}
pub use Rattle.np_objects.specs.OwnerLaws.{Counts, IsOwnerIn, NamesOwner, references_of}
pub use Rattle.np_objects.specs.Owners.{counts, names_owner, owner_of}
unfoldable pub use Rattle.np_objects.specs.Owners.{owner_reference}
unfoldable pub use Rattle.np_objects.specs.PodSpecs.{container, pod_spec}
pub use Rattle.np_objects.specs.Pods.{pod_item}
unfoldable pub use Rattle.np_objects.specs.Pods.{pod, pod_metadata}
pub use Rattle.np_objects.specs.Ports.{if_named}
unfoldable pub use Rattle.np_objects.specs.Ports.{container_port, port_name}
pub use Rattle.np_objects.specs.Services.{is_text, selector_of, service_item, target_by}
unfoldable pub use Rattle.np_objects.specs.Services.{by_name, by_number, service, service_port, service_spec, target_port}
pub use Rattle.np_objects.specs.Statuses.{HaveSame, address_by, distinct_addresses, has_address, is_finished, is_same_address, kept_with, no_status, with_found_address}
unfoldable pub use Rattle.np_objects.specs.Statuses.{address, pod_ip, pod_status}
unfoldable pub use Rattle.np_objects.specs.Templates.{template, template_metadata}
pub use Rattle.np_objects.specs.Types.{Address, BadAddress, BadField, BadName, Controller, ControllerItem, ControllerKind, ControllerMetadata, ControllerSpec, CronJob, DaemonSet, Dependent, Deployment, Field, Four, Item, Job, Named, NamedPort, NamespaceItem, NamespacedName, Number, Object, ObjectKind, OwnerRef, OwnerReference, Pair, Pod, PodItem, PodMetadata, PodSpec, PodStatus, PortName, Proto, ReplicaSet, ReplicationController, ServiceSpec, Six, StatefulSet, Step, Tcp, Template}
pub use Rattle.np_objects.specs.WellFormed.{IsWellObject, is_well_controller, is_well_namespace, is_well_object, is_well_owner, is_well_pod, is_well_template}
