pub mod Classes
pub mod Noted
