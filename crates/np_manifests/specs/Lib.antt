pub mod Lists
pub mod Manifests
pub mod Members
pub mod Types
