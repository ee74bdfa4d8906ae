-- The types and variants of structs and enums that this crate's definitions and proofs speak of, its own and those of the crates below.
pub use Rattle.np_base.specs.declared.range.Range.{Range}
pub use Rattle.np_conns.specs.declared.port_spot.PortSpot.{PortSpot}
pub use Rattle.np_addr.specs.declared.address.Family.{Family}
pub use Rattle.np_addr.specs.declared.address.Family.TheVariants.{Four, Six}
pub use Rattle.np_args.specs.declared.focus_side.FocusSide.{FocusSide}
pub use Rattle.np_args.specs.declared.format.Format.{Format}
pub use Rattle.np_args.specs.declared.report.Report.{Report}
pub use Rattle.np_model.specs.declared.direction.Direction.{Direction}
pub use Rattle.np_model.specs.declared.direction.Direction.TheVariants.{Egress, Ingress}
pub use Rattle.np_model.specs.declared.lists.EstateLists.{EstateLists}
pub use Rattle.np_model.specs.declared.pod.Pod.{Pod}
pub use Rattle.np_table.specs.declared.rows.AddressRow.{AddressRow}
pub use Rattle.np_table.specs.declared.rows.AddressSpan.{AddressSpan}
pub use Rattle.np_table.specs.declared.rows.Row.{Row}
pub use Rattle.np_table.specs.declared.rows.RowEnd.{RowEnd}
pub use Rattle.np_table.specs.declared.rows.RowEnd.TheVariants.{Controller, Span, Work}
pub use Rattle.np_table.specs.declared.rows.RowKey.{RowKey}
pub use Rattle.np_report.specs.declared.query.Query.{Query}
pub use Rattle.np_report.specs.declared.query.Query.TheVariants.{All}
pub use Rattle.np_command.specs.declared.fault.Fault.{Fault}
pub use Rattle.np_command.specs.declared.fault.Fault.TheVariants.{UnknownEnd}
pub use Rattle.np_command_list.specs.declared.report.Listing.{Listing}
