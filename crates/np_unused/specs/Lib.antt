pub mod Order
pub mod Prelude
pub mod Rules
pub mod steps
pub mod Types
pub mod Used
pub mod Without
