-- The definitions and types of this crate that its proofs and the crates above speak of, one import line a file.
pub use Rattle.np_report.specs.Forms.{Form, Progress, csv_form, csv_header, csv_line, form_of, fresh, json_form, json_object, lines_of, report_text, text_form, text_line, text_to_come, under_way}
pub use Rattle.np_report.specs.Keeps.{is_at, is_workload, keeps}
pub use Rattle.np_report.specs.RowText.{blocks_of, ends_text, family_suffix, names_of, row_end_text, span_text}
unfoldable pub use Rattle.np_report.specs.RowText.{row_text}
pub use Rattle.np_report.specs.TableText.{AreSameTables, SayTheSame, asked_rows, is_shown, shown_rows, texts_of}
unfoldable pub use Rattle.np_report.specs.TableText.{list_text, rows_to_come}
pub use Rattle.np_report.specs.Tallied.{Counts, no_rows, row_count, with_ends, with_row}
pub use Rattle.np_report.specs.Types.{Controller, Direction, Family, Format, Four, Query, Range, Report, Row, RowEnd, RowKey, RowText, Six, Span, Work}
