pub use Rattle.np_base.specs.Beside
pub use Rattle.np_base.specs.Ranges
pub mod Alike
pub mod Growing
pub mod Laws
pub mod Space
pub mod Steps
