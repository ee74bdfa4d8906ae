-- The definitions and types of this crate that its proofs and the crates above speak of, one import line a file.
pub use Rattle.np_frame.specs.FailureLines.{NamesSomething, error_line, failure_text, usage_text}
pub use Rattle.np_frame.specs.Failures.{source_failure}
pub use Rattle.np_frame.specs.NoteTexts.{left_out_text, notes_text, route_line}
unfoldable pub use Rattle.np_frame.specs.NoteTexts.{note}
pub use Rattle.np_frame.specs.OneLine.{IsOneLine, in_one_line, is_shown}
unfoldable pub use Rattle.np_frame.specs.OneLine.{one_line}
pub use Rattle.np_frame.specs.Sources.{AreTold, BeganFront, FailedAt, HandedOut, IsUntouched, NamesInput, NextUnread, OverLimit, ReadOnce, SourceTrace, Unread, is_too_large, sourced}
pub use Rattle.np_frame.specs.Words.{input_names, inputs_of, names_asked, object_texts, objects_of}
