pub mod Faults
pub mod Forms
pub mod Keeps
pub mod Prelude
pub mod RowText
pub mod TableText
pub mod Tallied
pub mod Types
