pub mod Demands
pub mod DistinctAscends
pub mod Labels
pub mod Prelude
pub mod Selectors
pub mod Types
pub mod Values
pub mod WellFormed
