-- The types and variants of structs and enums that this crate's definitions and proofs speak of, its own and those of the crates below.
pub use Rattle.np_conns.specs.declared.proto.Proto.{Proto}
pub use Rattle.np_conns.specs.declared.proto.Proto.TheVariants.{Tcp}
pub use Rattle.np_addr.specs.declared.cidr.Cidr.{Cidr}
pub use Rattle.np_labels.specs.declared.op.Op.{Op}
pub use Rattle.np_labels.specs.declared.op.Op.TheVariants.{Absent, NoneOf, OneOf, Present}
pub use Rattle.np_labels.specs.declared.requirement.Requirement.{Requirement}
pub use Rattle.np_labels.specs.declared.selector.Selector.{Selector}
pub use Rattle.np_model.specs.declared.admin_policy.Action.{Action}
pub use Rattle.np_model.specs.declared.admin_policy.Action.TheVariants.{Allow, Deny, Pass}
pub use Rattle.np_model.specs.declared.admin_policy.AdminPeer.{AdminPeer}
pub use Rattle.np_model.specs.declared.admin_policy.AdminPeer.TheVariants.{Networks, Pods}
pub use Rattle.np_model.specs.declared.admin_policy.AdminPolicy.{AdminPolicy}
pub use Rattle.np_model.specs.declared.admin_policy.AdminPort.{AdminPort}
pub use Rattle.np_model.specs.declared.admin_policy.AdminRule.{AdminRule}
pub use Rattle.np_model.specs.declared.admin_policy.BasePolicy.{BasePolicy}
pub use Rattle.np_model.specs.declared.admin_policy.Subject.{Subject}
pub use Rattle.np_model.specs.declared.direction.Direction.{Direction}
pub use Rattle.np_model.specs.declared.direction.Direction.TheVariants.{Egress, Ingress}
pub use Rattle.np_model.specs.declared.network_policy.NetPeer.{NetPeer}
pub use Rattle.np_model.specs.declared.network_policy.NetPeer.TheVariants.{Block}
pub use Rattle.np_model.specs.declared.network_policy.NetPolicy.{NetPolicy}
pub use Rattle.np_model.specs.declared.network_policy.NetPort.{NetPort}
pub use Rattle.np_model.specs.declared.network_policy.NetRule.{NetRule}
pub use Rattle.np_json.specs.declared.fault.FaultKind.{FaultKind}
pub use Rattle.np_json.specs.declared.fault.FaultKind.TheVariants.{BadAction, BadCidr, BadExcept, BadField, BadName, BadPort, BadPriority, BadSelector, BaselineName, DomainPeer, EmptyPeers, ForeignPolicy, NodePeer, PeerShape}
pub use Rattle.np_json.specs.declared.meta.NamespacedName.{NamespacedName}
pub use Rattle.np_json.specs.declared.meta.TypeMeta.{TypeMeta}
pub use Rattle.np_json.specs.declared.path.Step.TheVariants.{Field, Item}
pub use Rattle.np_policies.specs.declared.admin_policy_shape.AdminSpec.{AdminSpec}
pub use Rattle.np_policies.specs.declared.admin_rule_shape.AdminKind.{AdminKind}
pub use Rattle.np_policies.specs.declared.ip_block_shape.IpBlock.{IpBlock}
pub use Rattle.np_policies.specs.declared.net_policy_shape.NetSpec.{NetSpec}
pub use Rattle.np_policies.specs.declared.net_port_shape.PortValue.{PortValue}
pub use Rattle.np_policies.specs.declared.net_port_shape.PortValue.TheVariants.{Name, Number}
pub use Rattle.np_policies.specs.declared.policy.Policy.{Policy}
pub use Rattle.np_policies.specs.declared.policy_shape.PolicyKind.{PolicyKind}
pub use Rattle.np_policies.specs.declared.policy_shape.PolicyKind.TheVariants.{Admin, Base, Foreign, Net, NoPolicy}
