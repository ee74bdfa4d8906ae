-- The types and variants of structs and enums that this crate's definitions and proofs speak of, its own and those of the crates below.
pub use Rattle.np_base.specs.declared.beside.Which.TheVariants.{First, Second}
pub use Rattle.np_base.specs.declared.range.Range.{Range}
pub use Rattle.np_conns.specs.declared.port_spot.PortSpot.{PortSpot}
pub use Rattle.np_conns.specs.declared.proto.Proto.{Proto}
pub use Rattle.np_conns.specs.declared.proto.Proto.TheVariants.{Sctp, Tcp, Udp}
pub use Rattle.np_addr.specs.declared.address.Address.{Address}
pub use Rattle.np_addr.specs.declared.address.Address.TheVariants.{Four, Six}
pub use Rattle.np_addr.specs.declared.address.Family.{Family}
pub use Rattle.np_model.specs.declared.direction.Direction.TheVariants.{Egress, Ingress}
pub use Rattle.np_model.specs.declared.lists.EstateLists.{EstateLists}
pub use Rattle.np_check.specs.declared.addresses.BreakingAddress.{BreakingAddress}
pub use Rattle.np_check.specs.declared.counterexample.Counterexample.{Counterexample}
pub use Rattle.np_check.specs.declared.counterexample.PlaceEnd.{PlaceEnd}
pub use Rattle.np_check.specs.declared.counterexample.PlaceEnd.TheVariants.{At, Work}
pub use Rattle.np_check.specs.declared.question.Ends.{Ends}
pub use Rattle.np_check.specs.declared.question.Question.{Question}
pub use Rattle.np_check.specs.declared.question.Wanted.{Wanted}
pub use Rattle.np_check.specs.declared.question.Wanted.TheVariants.{Allow, Deny}
