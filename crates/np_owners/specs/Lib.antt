pub mod Chains
pub mod MadePods
pub mod Names
pub mod Owners
pub mod Prelude
pub mod Types
