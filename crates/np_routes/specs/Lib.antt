pub mod ClusterTable
pub mod Controllers
pub mod Prelude
pub mod RouteNotes
pub mod Routes
pub mod Services
pub mod steps
pub mod Types
