pub mod Failures
pub mod FileLines
pub mod FirstBroken
pub mod KnownEnds
pub mod Prelude
pub mod Promise
pub mod Report
pub mod Types
