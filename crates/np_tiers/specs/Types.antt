-- The types and variants of structs and enums that this crate's definitions and proofs speak of, its own and those of the crates below.
pub use Rattle.np_model.specs.declared.admin_policy.Action.{Action}
pub use Rattle.np_model.specs.declared.admin_policy.Action.TheVariants.{Allow, Deny, Pass}
pub use Rattle.np_tiers.specs.declared.layer.AdminPart.{AdminPart}
pub use Rattle.np_tiers.specs.declared.layer.BasePart.{BasePart}
pub use Rattle.np_tiers.specs.declared.layer.Layer.{Layer}
pub use Rattle.np_tiers.specs.declared.mark.Mark.{Mark}
pub use Rattle.np_tiers.specs.declared.mark.Mark.TheVariants.{Admin, Base, Free, Isolated, Net}
pub use Rattle.np_tiers.specs.declared.mark.Marked.{Marked}
pub use Rattle.np_tiers.specs.declared.run.Run.{Run}
