-- The definitions and types of this crate that its proofs and the crates above speak of, one import line a file.
pub use Rattle.np_command.specs.Ends.{end_text, or_unknown}
pub use Rattle.np_command.specs.Failures.{fold_failure, refusal_failure, words_failure, write_failure}
pub use Rattle.np_command.specs.Inputs.{Gives, Refuses, lists_of}
unfoldable pub use Rattle.np_command.specs.Inputs.{small_estate}
pub use Rattle.np_command.specs.Messages.{fault_text}
pub use Rattle.np_command.specs.Prints.{Wrote, WroteAll, WroteFront, fault_in, text_in, without_value}
pub use Rattle.np_command.specs.Sinks.{IsKept, Said, SinkTrace, TookWhole, sunk}
pub use Rattle.np_command.specs.Statuses.{code_of, failure_status}
pub use Rattle.np_command.specs.TableSteps.{table_steps}
unfoldable pub use Rattle.np_command.specs.TableSteps.{list_steps}
pub use Rattle.np_command.specs.Types.{Alike, BadStatement, CannotRead, CannotWrite, EstateLists, Failure, Fault, Inputs, NoMemory, Refused, SameEnd, SinkFailed, Split, TooLarge, TooManyPatterns, TooManyWorkloads, UnknownEnd, Usage, WriteFault}
pub use Rattle.np_command.specs.Written.{Writes}
pub use Rattle.np_command.specs.steps.Putting.{PutAll, Puts}
