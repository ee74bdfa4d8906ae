pub mod Marks
pub mod Namespaces
pub mod Prelude
pub mod Reach
pub mod SidesOf
pub mod Stretches
pub mod Types
