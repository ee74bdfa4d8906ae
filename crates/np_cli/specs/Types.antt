-- The types and variants of structs and enums that this crate's definitions and proofs speak of, its own and those of the crates below.
pub use Rattle.np_args.specs.declared.job.Job.{Job}
pub use Rattle.np_args.specs.declared.job.Job.TheVariants.{Check, Evaluate, Explain, Exposure, Flatten, List, Sample, Unused}
pub use Rattle.np_model.specs.declared.lists.EstateLists.{EstateLists}
pub use Rattle.np_command.specs.declared.failure.Failure.{Failure}
pub use Rattle.np_command.specs.declared.failure.Failure.TheVariants.{CannotRead, CannotWrite, NoMemory, Refused, TooLarge, Usage}
pub use Rattle.np_command.specs.declared.fault.Fault.{Fault}
pub use Rattle.np_command.specs.declared.status.Status.{Status}
pub use Rattle.np_frame.specs.declared.notes.ReportNotes.{ReportNotes}
pub use Rattle.np_cli.specs.declared.outcome.Ending.{Ending}
pub use Rattle.np_cli.specs.declared.outcome.Ending.TheVariants.{Done, Violated}
