pub mod FailureLines
pub mod Failures
pub mod NoteTexts
pub mod OneLine
pub mod Prelude
pub mod Sources
pub mod Words
