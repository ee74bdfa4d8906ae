-- The types and variants of structs and enums that this crate's definitions and proofs speak of, its own and those of the crates below.
pub use Rattle.np_base.specs.declared.range.Range.{Range}
pub use Rattle.np_conns.specs.declared.port_spot.PortSpot.{PortSpot}
pub use Rattle.np_conns.specs.declared.proto.Proto.{Proto}
pub use Rattle.np_conns.specs.declared.proto.Proto.TheVariants.{Sctp, Tcp, Udp}
pub use Rattle.np_addr.specs.declared.address.Address.{Address}
pub use Rattle.np_addr.specs.declared.address.Family.{Family}
pub use Rattle.np_addr.specs.declared.cidr.Cidr.{Cidr}
pub use Rattle.np_addr.specs.declared.cidr.Cidr.TheVariants.{Four, Six}
pub use Rattle.np_labels.specs.declared.op.Op.{Op}
pub use Rattle.np_labels.specs.declared.op.Op.TheVariants.{Absent, NoneOf, OneOf, Present}
pub use Rattle.np_labels.specs.declared.requirement.Requirement.{Requirement}
pub use Rattle.np_labels.specs.declared.selector.Selector.{Selector}
pub use Rattle.np_model.specs.declared.direction.Direction.{Direction}
pub use Rattle.np_model.specs.declared.direction.Direction.TheVariants.{Egress, Ingress}
pub use Rattle.np_model.specs.declared.lists.EstateLists.{EstateLists}
pub use Rattle.np_model.specs.declared.network_policy.NetPeer.{NetPeer}
pub use Rattle.np_model.specs.declared.network_policy.NetPeer.TheVariants.{Block, Pods}
pub use Rattle.np_model.specs.declared.network_policy.NetPolicy.{NetPolicy}
pub use Rattle.np_model.specs.declared.network_policy.NetPort.{NetPort}
pub use Rattle.np_model.specs.declared.network_policy.NetPort.TheVariants.{Named, Span}
pub use Rattle.np_model.specs.declared.network_policy.NetRule.{NetRule}
pub use Rattle.np_items.specs.declared.item.Item.{Item}
pub use Rattle.np_table.specs.declared.rows.AddressRow.{AddressRow}
pub use Rattle.np_flatten.specs.declared.fault.FlatFault.{FlatFault}
pub use Rattle.np_flatten.specs.declared.fault.FlatFault.TheVariants.{Alike, NoMemory, Split}
pub use Rattle.np_command.specs.declared.fault.Fault.{Fault}
