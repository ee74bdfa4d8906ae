pub mod Types
pub mod OnlyNamespace
pub mod States
pub mod Walks
pub mod Settled
pub mod Case
