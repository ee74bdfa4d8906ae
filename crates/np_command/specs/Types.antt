-- The types and variants of structs and enums that this crate's definitions and proofs speak of, its own and those of the crates below.
pub use Rattle.np_model.specs.declared.lists.EstateLists.{EstateLists}
pub use Rattle.np_command.specs.declared.failure.Failure.{Failure}
pub use Rattle.np_command.specs.declared.failure.Failure.TheVariants.{CannotRead, CannotWrite, NoMemory, Refused, TooLarge, Usage}
pub use Rattle.np_command.specs.declared.fault.Fault.{Fault}
pub use Rattle.np_command.specs.declared.fault.Fault.TheVariants.{Alike, BadStatement, Inputs, SameEnd, Split, TooManyPatterns, TooManyWorkloads, UnknownEnd}
pub use Rattle.np_command.specs.declared.write_fault.WriteFault.{WriteFault}
pub use Rattle.np_command.specs.declared.write_fault.WriteFault.TheVariants.{SinkFailed}
