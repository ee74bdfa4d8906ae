pub mod EachRow
pub mod Prelude
pub mod Promise
pub mod Report
pub mod RowOrder
pub mod Types
