-- The types and variants of structs and enums that this crate's definitions and proofs speak of, its own and those of the crates below.
pub use Rattle.np_args.specs.declared.format.Format.{Format}
pub use Rattle.np_model.specs.declared.direction.Direction.{Direction}
pub use Rattle.np_model.specs.declared.direction.Direction.TheVariants.{Egress, Ingress}
pub use Rattle.np_model.specs.declared.lists.EstateLists.{EstateLists}
pub use Rattle.np_rules.specs.declared.stranger.Stranger.{Stranger}
pub use Rattle.np_exposure.specs.declared.exposure_row.ExposureRow.{ExposureRow}
pub use Rattle.np_report.specs.declared.row.RowText.{RowText}
pub use Rattle.np_command.specs.declared.fault.Fault.{Fault}
pub use Rattle.np_command.specs.declared.fault.Fault.TheVariants.{TooManyPatterns, UnknownEnd}
pub use Rattle.np_command_exposure.specs.declared.report.ShownSide.{ShownSide}
pub use Rattle.np_command_exposure.specs.declared.known_rows.KnownSide.{KnownSide}
pub use Rattle.np_command_exposure.specs.declared.known_rows.PeerRow.{PeerRow}
pub use Rattle.np_command_exposure.specs.declared.light_sides.LightSide.{LightSide}
