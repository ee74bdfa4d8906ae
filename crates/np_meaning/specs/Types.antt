-- The types and variants of structs and enums that this crate's definitions and proofs speak of, its own and those of the crates below.
pub use Rattle.np_base.specs.declared.range.Range.{Range}
pub use Rattle.np_conns.specs.declared.port_spot.PortSpot.{PortSpot}
pub use Rattle.np_conns.specs.declared.proto.Proto.{Proto}
pub use Rattle.np_conns.specs.declared.proto.Proto.TheVariants.{Tcp}
pub use Rattle.np_addr.specs.declared.address.Address.{Address}
pub use Rattle.np_addr.specs.declared.address.Address.TheVariants.{Four, Six}
pub use Rattle.np_addr.specs.declared.address.Family.{Family}
pub use Rattle.np_addr.specs.declared.cidr.Cidr.{Cidr}
pub use Rattle.np_labels.specs.declared.op.Op.{Op}
pub use Rattle.np_labels.specs.declared.op.Op.TheVariants.{Absent, NoneOf, OneOf, Present}
pub use Rattle.np_labels.specs.declared.pair.Pair.{Pair}
pub use Rattle.np_labels.specs.declared.requirement.Requirement.{Requirement}
pub use Rattle.np_labels.specs.declared.selector.Selector.{Selector}
pub use Rattle.np_args.specs.declared.report.Report.{Report}
pub use Rattle.np_args.specs.declared.report.Report.TheVariants.{One, Two}
pub use Rattle.np_model.specs.declared.admin_policy.Action.{Action}
pub use Rattle.np_model.specs.declared.admin_policy.Action.TheVariants.{Allow, Deny, Pass}
pub use Rattle.np_model.specs.declared.admin_policy.AdminPeer.{AdminPeer}
pub use Rattle.np_model.specs.declared.admin_policy.AdminPeer.TheVariants.{Networks, Pods}
pub use Rattle.np_model.specs.declared.admin_policy.AdminPolicy.{AdminPolicy}
pub use Rattle.np_model.specs.declared.admin_policy.AdminPort.{AdminPort}
pub use Rattle.np_model.specs.declared.admin_policy.AdminRule.{AdminRule}
pub use Rattle.np_model.specs.declared.admin_policy.BasePolicy.{BasePolicy}
pub use Rattle.np_model.specs.declared.admin_policy.Subject.{Subject}
pub use Rattle.np_model.specs.declared.direction.Direction.{Direction}
pub use Rattle.np_model.specs.declared.direction.Direction.TheVariants.{Egress, Ingress}
pub use Rattle.np_model.specs.declared.ingress.Backend.{Backend}
pub use Rattle.np_model.specs.declared.ingress.Backend.TheVariants.{Resource, Service}
pub use Rattle.np_model.specs.declared.ingress.IngressItem.{IngressItem}
pub use Rattle.np_model.specs.declared.lists.EstateLists.{EstateLists}
pub use Rattle.np_model.specs.declared.named_port.NamedPort.{NamedPort}
pub use Rattle.np_model.specs.declared.network_policy.NetPeer.{NetPeer}
pub use Rattle.np_model.specs.declared.network_policy.NetPeer.TheVariants.{Block}
pub use Rattle.np_model.specs.declared.network_policy.NetPolicy.{NetPolicy}
pub use Rattle.np_model.specs.declared.network_policy.NetPort.{NetPort}
pub use Rattle.np_model.specs.declared.network_policy.NetRule.{NetRule}
pub use Rattle.np_model.specs.declared.pod.Pod.{Pod}
pub use Rattle.np_model.specs.declared.service.PortName.{PortName}
pub use Rattle.np_model.specs.declared.service.PortName.TheVariants.{Named, Number}
pub use Rattle.np_model.specs.declared.service.ServiceItem.{ServiceItem}
pub use Rattle.np_model.specs.declared.service.ServicePort.{ServicePort}
pub use Rattle.np_json.specs.declared.fault.FaultKind.TheVariants.{BadAction, BadAddress, BadCidr, BadField, BadName, BadPort, BadPriority, BadProtocol, BadSelector, BaselineName, DomainPeer, EmptyPeers, ForeignPolicy, NodePeer, PeerShape}
pub use Rattle.np_json.specs.declared.meta.NamespacedName.{NamespacedName}
pub use Rattle.np_json.specs.declared.meta.TypeMeta.{TypeMeta}
pub use Rattle.np_json.specs.declared.path.Step.TheVariants.{Field}
pub use Rattle.np_objects.specs.declared.controller.ControllerItem.{ControllerItem}
pub use Rattle.np_objects.specs.declared.controller.ControllerKind.{ControllerKind}
pub use Rattle.np_objects.specs.declared.controller.ControllerKind.TheVariants.{CronJob, DaemonSet, Deployment, Job, ReplicaSet, ReplicationController, StatefulSet}
pub use Rattle.np_objects.specs.declared.controller.Template.{Template}
pub use Rattle.np_objects.specs.declared.namespace.NamespaceItem.{NamespaceItem}
pub use Rattle.np_objects.specs.declared.object.Object.{Object}
pub use Rattle.np_objects.specs.declared.owner_ref.OwnerRef.{OwnerRef}
pub use Rattle.np_objects.specs.declared.pod_item.PodItem.{PodItem}
pub use Rattle.np_policies.specs.declared.admin_policy_shape.AdminSpec.{AdminSpec}
pub use Rattle.np_policies.specs.declared.admin_rule_shape.AdminKind.{AdminKind}
pub use Rattle.np_policies.specs.declared.ip_block_shape.IpBlock.{IpBlock}
pub use Rattle.np_policies.specs.declared.net_policy_shape.NetSpec.{NetSpec}
pub use Rattle.np_policies.specs.declared.net_port_shape.PortValue.{PortValue}
pub use Rattle.np_policies.specs.declared.net_port_shape.PortValue.TheVariants.{Name}
pub use Rattle.np_policies.specs.declared.policy.Policy.{Policy}
pub use Rattle.np_policies.specs.declared.policy_shape.PolicyKind.{PolicyKind}
pub use Rattle.np_policies.specs.declared.policy_shape.PolicyKind.TheVariants.{Admin, Base, Foreign, Net, NoPolicy}
pub use Rattle.np_items.specs.declared.item.Item.{Item}
pub use Rattle.np_owners.specs.declared.object_name.ObjectName.{ObjectName}
pub use Rattle.np_table.specs.declared.rows.AddressSpan.{AddressSpan}
pub use Rattle.np_table.specs.declared.rows.Row.{Row}
pub use Rattle.np_table.specs.declared.rows.RowEnd.{RowEnd}
pub use Rattle.np_table.specs.declared.rows.RowEnd.TheVariants.{Controller, Span, Work}
