-- The definitions and types of this crate that its proofs and the crates above speak of, one import line a file.
pub use Rattle.np_command_explain.specs.Promise.{AreNamed, Explains, ExplainsAll, HaveBothFamilies, IsRightIn, NamesEnd, NamesNone, NamesSome, RefusesExplain, no_destination, no_source, one_for_all, one_for_each, one_pod}
pub use Rattle.np_command_explain.specs.Report.{are_one, destination_end, explain_ends, in_families, known_ends, part_line, shown, shown_of_both, source_end}
unfoldable pub use Rattle.np_command_explain.specs.Report.{asked_end, ends_between, ends_named, explain_reply, explain_text, explanations, shown_text, side_text}
pub use Rattle.np_command_explain.specs.Types.{Address, AskedEnd, At, Direction, Egress, End, EndWord, EstateLists, ExplainedEnds, Explanation, Family, Fault, Four, Ingress, Part, SameEnd, Shown, Six, UnknownEnd, Work}
pub use Rattle.np_command_explain.specs.steps.Explaining.{AreEnds, HasPods, IsAsked, head_line, parts_at, row_line}
