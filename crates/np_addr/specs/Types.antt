-- The types and variants of structs and enums that this crate's definitions and proofs speak of, its own and those of the crates below.
pub use Rattle.np_base.specs.declared.range.Range.{Range}
pub use Rattle.np_addr.specs.declared.address.Address.{Address}
pub use Rattle.np_addr.specs.declared.address.Address.TheVariants.{Four, Six}
pub use Rattle.np_addr.specs.declared.address.Family.{Family}
pub use Rattle.np_addr.specs.declared.cidr.Cidr.{Cidr}
