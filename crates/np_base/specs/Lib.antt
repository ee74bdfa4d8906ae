pub mod Beside
pub mod Ranges
pub mod Texts
