-- The types and variants of structs and enums that this crate's definitions and proofs speak of, its own and those of the crates below.
pub use Rattle.np_model.specs.declared.lists.EstateLists.{EstateLists}
pub use Rattle.np_check.specs.declared.counterexample.Counterexample.{Counterexample}
pub use Rattle.np_check.specs.declared.counterexample.PlaceEnd.{PlaceEnd}
pub use Rattle.np_check.specs.declared.counterexample.PlaceEnd.TheVariants.{At, Work}
pub use Rattle.np_check.specs.declared.question.Ends.{Ends}
pub use Rattle.np_statements.specs.declared.asked_line.AskedLine.{AskedLine}
pub use Rattle.np_statements.specs.declared.broken.Broken.{Broken}
pub use Rattle.np_statements.specs.declared.end_fault.EndFault.{EndFault}
pub use Rattle.np_statements.specs.declared.statement_line.StatementLine.{StatementLine}
pub use Rattle.np_statements.specs.declared.statement_text.EndForm.{EndForm}
pub use Rattle.np_statements.specs.declared.statement_text.EndForm.TheVariants.{Addresses, Block, Namespace, Pods}
pub use Rattle.np_statements.specs.declared.statement_text.StatementText.{StatementText}
pub use Rattle.np_command.specs.declared.fault.Fault.{Fault}
pub use Rattle.np_command.specs.declared.fault.Fault.TheVariants.{BadStatement, UnknownEnd}
