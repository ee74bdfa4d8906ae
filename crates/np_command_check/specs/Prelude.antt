-- The definitions and types of this crate that its proofs and the crates above speak of, one import line a file.
pub use Rattle.np_command_check.specs.Failures.{end_failure, file_failure}
pub use Rattle.np_command_check.specs.FileLines.{AreLinesOf, IsFirstBad, IsTextOf, StandsInFile}
pub use Rattle.np_command_check.specs.FirstBroken.{Breaks, BreaksFirst, IsFirstBrokenLine, NamesPlace}
pub use Rattle.np_command_check.specs.KnownEnds.{IsFirstUnknown, IsKnown, forms_of}
pub use Rattle.np_command_check.specs.Promise.{ChecksAll, FindsBroken, IsAskedOf, RefusesCheck}
pub use Rattle.np_command_check.specs.Report.{asked_lines, finding, finding_of, hold_in, line_fault, name_fault, statement_bytes}
unfoldable pub use Rattle.np_command_check.specs.Report.{all_hold, asked_in, check_reply}
pub use Rattle.np_command_check.specs.Types.{Addresses, AskedLine, At, BadStatement, Block, Broken, Counterexample, EndFault, EndForm, Ends, EstateLists, Fault, Namespace, PlaceEnd, Pods, StatementLine, StatementText, UnknownEnd, Work}
