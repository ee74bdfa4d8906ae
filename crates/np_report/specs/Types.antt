-- The types and variants of structs and enums that this crate's definitions and proofs speak of, its own and those of the crates below.
pub use Rattle.np_base.specs.declared.range.Range.{Range}
pub use Rattle.np_addr.specs.declared.address.Family.{Family}
pub use Rattle.np_addr.specs.declared.address.Family.TheVariants.{Four, Six}
pub use Rattle.np_args.specs.declared.format.Format.{Format}
pub use Rattle.np_args.specs.declared.report.Report.{Report}
pub use Rattle.np_model.specs.declared.direction.Direction.{Direction}
pub use Rattle.np_table.specs.declared.rows.Row.{Row}
pub use Rattle.np_table.specs.declared.rows.RowEnd.{RowEnd}
pub use Rattle.np_table.specs.declared.rows.RowEnd.TheVariants.{Controller, Span, Work}
pub use Rattle.np_table.specs.declared.rows.RowKey.{RowKey}
pub use Rattle.np_report.specs.declared.query.Query.{Query}
pub use Rattle.np_report.specs.declared.row.RowText.{RowText}
