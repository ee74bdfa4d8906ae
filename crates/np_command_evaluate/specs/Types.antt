-- The types and variants of structs and enums that this crate's definitions and proofs speak of, its own and those of the crates below.
pub use Rattle.np_conns.specs.declared.port_spot.PortSpot.{PortSpot}
pub use Rattle.np_args.specs.declared.end_word.EndWord.{EndWord}
pub use Rattle.np_model.specs.declared.lists.EstateLists.{EstateLists}
pub use Rattle.np_model.specs.declared.pod.Pod.{Pod}
pub use Rattle.np_rules.specs.declared.packet.End.{End}
pub use Rattle.np_command.specs.declared.fault.Fault.{Fault}
pub use Rattle.np_command.specs.declared.fault.Fault.TheVariants.{SameEnd, UnknownEnd}
