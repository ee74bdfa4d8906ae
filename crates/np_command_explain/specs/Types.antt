-- The types and variants of structs and enums that this crate's definitions and proofs speak of, its own and those of the crates below.
pub use Rattle.np_addr.specs.declared.address.Address.{Address}
pub use Rattle.np_addr.specs.declared.address.Family.{Family}
pub use Rattle.np_addr.specs.declared.address.Family.TheVariants.{Four, Six}
pub use Rattle.np_args.specs.declared.end_word.EndWord.{EndWord}
pub use Rattle.np_model.specs.declared.direction.Direction.{Direction}
pub use Rattle.np_model.specs.declared.direction.Direction.TheVariants.{Egress, Ingress}
pub use Rattle.np_model.specs.declared.lists.EstateLists.{EstateLists}
pub use Rattle.np_rules.specs.declared.packet.End.{End}
pub use Rattle.np_explain.specs.declared.explanation.Explanation.{Explanation}
pub use Rattle.np_explain.specs.declared.part.Part.{Part}
pub use Rattle.np_command.specs.declared.fault.Fault.{Fault}
pub use Rattle.np_command.specs.declared.fault.Fault.TheVariants.{SameEnd, UnknownEnd}
pub use Rattle.np_command_explain.specs.declared.report.AskedEnd.{AskedEnd}
pub use Rattle.np_command_explain.specs.declared.report.AskedEnd.TheVariants.{At, Work}
pub use Rattle.np_command_explain.specs.declared.report.ExplainedEnds.{ExplainedEnds}
pub use Rattle.np_command_explain.specs.declared.report.Shown.{Shown}
