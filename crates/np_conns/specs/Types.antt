-- The types and variants of structs and enums that this crate's definitions and proofs speak of, its own and those of the crates below.
pub use Rattle.np_base.specs.declared.range.Range.{Range}
pub use Rattle.np_conns.specs.declared.conns_fault.ConnsFault.{ConnsFault}
pub use Rattle.np_conns.specs.declared.conns_fault.ConnsFault.TheVariants.{BadConns, NoMemory}
pub use Rattle.np_conns.specs.declared.port_spot.PortSpot.{PortSpot}
pub use Rattle.np_conns.specs.declared.proto.Proto.{Proto}
pub use Rattle.np_conns.specs.declared.proto.Proto.TheVariants.{Sctp, Tcp, Udp}
