pub mod Counts
pub mod Faults
pub mod Memory
pub mod Prelude
pub mod Source
pub mod Taken
pub mod Told
