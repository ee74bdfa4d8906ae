pub mod Between
pub mod Ends
pub mod Kinds
pub mod Prelude
pub mod Shared
pub mod Types
