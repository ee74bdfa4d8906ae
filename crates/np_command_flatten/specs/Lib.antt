pub mod Estates
pub mod Prelude
pub mod Printable
pub mod Promise
pub mod Report
pub mod Types
