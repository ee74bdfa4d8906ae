-- The definitions and types of this crate that its proofs and the crates above speak of, one import line a file.
pub use Rattle.np_cli.specs.Answers.{IsCountable, IsLawfulIn, ending, ending_in, ends_so, no_notes, other_notes, reply_in}
unfoldable pub use Rattle.np_cli.specs.Answers.{check_holds, ending_of, output, printed_text, refusal, reply, report_notes}
pub use Rattle.np_cli.specs.Bytes.{AcknowledgesReport, Bytes, Completes, RefusesFaults, SaysCounts}
pub use Rattle.np_cli.specs.Causes.{Cause, EndsExactly, IsAccepted, IsReported, LackedExactly, RefusedExactly, ReportedExactly, StoppedExactly}
pub use Rattle.np_cli.specs.Counts.{Counted, RoseAtMost, steps_in}
unfoldable pub use Rattle.np_cli.specs.Counts.{most_steps, reply_steps}
pub use Rattle.np_cli.specs.InMemory.{SaysOfTexts, answer_to, holding, outcome_on, texts_held}
pub use Rattle.np_cli.specs.Messages.{ending_text, message}
pub use Rattle.np_cli.specs.Outcomes.{Concludes, HaveFault, IsReportOn, LackedMemory, Leaves, NotesLeftOut, ReadAll, RefusedFor, RefusesFor, Reported, Says, StoppedWriting, taking}
pub use Rattle.np_cli.specs.Prints.{Answers}
pub use Rattle.np_cli.specs.Promises.{BlamesDevice, BlamesWords, IsStill, NoInputFailed, Promises, RefusesMore, RefusesTooLarge, SaysOfInputs}
pub use Rattle.np_cli.specs.Runs.{AskedNothing, KnowsBytes, ReadTooMuch, Run, StoppedReading, ran}
pub use Rattle.np_cli.specs.Statuses.{ending_status, status_of}
pub use Rattle.np_cli.specs.Types.{CannotRead, CannotWrite, Check, Done, Ending, EstateLists, Evaluate, Explain, Exposure, Failure, Fault, Flatten, Job, List, NoMemory, Refused, ReportNotes, Sample, Status, TooLarge, Unused, Usage, Violated}
