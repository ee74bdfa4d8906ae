pub mod Estate
pub mod Prelude
pub mod Promise
pub mod Report
pub mod Types
