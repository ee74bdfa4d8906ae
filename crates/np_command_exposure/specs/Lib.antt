pub mod Promise
pub mod Report
pub mod steps
pub mod Types
