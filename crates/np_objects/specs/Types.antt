-- The types and variants of structs and enums that this crate's definitions and proofs speak of, its own and those of the crates below.
pub use Rattle.np_conns.specs.declared.proto.Proto.{Proto}
pub use Rattle.np_conns.specs.declared.proto.Proto.TheVariants.{Tcp}
pub use Rattle.np_addr.specs.declared.address.Address.{Address}
pub use Rattle.np_addr.specs.declared.address.Address.TheVariants.{Four, Six}
pub use Rattle.np_labels.specs.declared.pair.Pair.{Pair}
pub use Rattle.np_model.specs.declared.named_port.NamedPort.{NamedPort}
pub use Rattle.np_model.specs.declared.service.PortName.{PortName}
pub use Rattle.np_model.specs.declared.service.PortName.TheVariants.{Named, Number}
pub use Rattle.np_json.specs.declared.fault.FaultKind.TheVariants.{BadAddress, BadField, BadName}
pub use Rattle.np_json.specs.declared.meta.NamespacedName.{NamespacedName}
pub use Rattle.np_json.specs.declared.path.Step.{Step}
pub use Rattle.np_json.specs.declared.path.Step.TheVariants.{Field, Item}
pub use Rattle.np_objects.specs.declared.controller.ControllerItem.{ControllerItem}
pub use Rattle.np_objects.specs.declared.controller.ControllerKind.{ControllerKind}
pub use Rattle.np_objects.specs.declared.controller.ControllerKind.TheVariants.{CronJob, DaemonSet, Deployment, Job, ReplicaSet, ReplicationController, StatefulSet}
pub use Rattle.np_objects.specs.declared.controller.Template.{Template}
pub use Rattle.np_objects.specs.declared.controller_shapes.ControllerMetadata.{ControllerMetadata}
pub use Rattle.np_objects.specs.declared.controller_spec.ControllerSpec.{ControllerSpec}
pub use Rattle.np_objects.specs.declared.kind.ObjectKind.{ObjectKind}
pub use Rattle.np_objects.specs.declared.namespace.NamespaceItem.{NamespaceItem}
pub use Rattle.np_objects.specs.declared.object.Object.{Object}
pub use Rattle.np_objects.specs.declared.owner_ref.OwnerRef.{OwnerRef}
pub use Rattle.np_objects.specs.declared.owner_reference.Dependent.{Dependent}
pub use Rattle.np_objects.specs.declared.owner_reference.Dependent.TheVariants.{Controller, Pod}
pub use Rattle.np_objects.specs.declared.owner_reference.OwnerReference.{OwnerReference}
pub use Rattle.np_objects.specs.declared.pod_item.PodItem.{PodItem}
pub use Rattle.np_objects.specs.declared.pod_item.PodMetadata.{PodMetadata}
pub use Rattle.np_objects.specs.declared.pod_spec.PodSpec.{PodSpec}
pub use Rattle.np_objects.specs.declared.pod_status.PodStatus.{PodStatus}
pub use Rattle.np_objects.specs.declared.service_spec.ServiceSpec.{ServiceSpec}
