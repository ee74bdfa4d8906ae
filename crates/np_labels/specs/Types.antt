-- The types and variants of structs and enums that this crate's definitions and proofs speak of, its own and those of the crates below.
pub use Rattle.np_labels.specs.declared.demand.Demand.{Demand}
pub use Rattle.np_labels.specs.declared.op.Op.{Op}
pub use Rattle.np_labels.specs.declared.op.Op.TheVariants.{Absent, NoneOf, OneOf, Present}
pub use Rattle.np_labels.specs.declared.pair.Pair.{Pair}
pub use Rattle.np_labels.specs.declared.requirement.Requirement.{Requirement}
pub use Rattle.np_labels.specs.declared.selector.Selector.{Selector}
