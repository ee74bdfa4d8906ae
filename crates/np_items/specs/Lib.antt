pub mod Faults
pub mod Inputs
pub mod Items
pub mod Prelude
pub mod Readings
pub mod WellFormed
