-- The types and variants of structs and enums that this crate's definitions and proofs speak of, its own and those of the crates below.
pub use Rattle.np_conns.specs.declared.proto.Proto.{Proto}
pub use Rattle.np_addr.specs.declared.cidr.Cidr.{Cidr}
pub use Rattle.np_labels.specs.declared.op.Op.{Op}
pub use Rattle.np_labels.specs.declared.op.Op.TheVariants.{Absent, NoneOf, OneOf, Present}
pub use Rattle.np_labels.specs.declared.requirement.Requirement.{Requirement}
pub use Rattle.np_labels.specs.declared.selector.Selector.{Selector}
pub use Rattle.np_model.specs.declared.direction.Direction.{Direction}
pub use Rattle.np_model.specs.declared.direction.Direction.TheVariants.{Egress, Ingress}
pub use Rattle.np_model.specs.declared.network_policy.NetPeer.{NetPeer}
pub use Rattle.np_model.specs.declared.network_policy.NetPeer.TheVariants.{Block, Pods}
pub use Rattle.np_model.specs.declared.network_policy.NetPolicy.{NetPolicy}
pub use Rattle.np_model.specs.declared.network_policy.NetPort.{NetPort}
pub use Rattle.np_model.specs.declared.network_policy.NetPort.TheVariants.{Named, Span}
pub use Rattle.np_model.specs.declared.network_policy.NetRule.{NetRule}
