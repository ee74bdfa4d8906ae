pub mod Objects
pub mod Prelude
pub mod Sample
