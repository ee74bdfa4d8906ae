pub mod GroupSteps
pub mod Growing
pub mod KeyTies
pub mod Lists
pub mod NoteSteps
pub mod Relations
