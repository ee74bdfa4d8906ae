pub mod Entries
pub mod Marks
pub mod Prelude
pub mod Runs
pub mod Types
pub mod Walk
