-- The definitions and types of this crate that its proofs and the crates above speak of, one import line a file.
pub use Rattle.np_command_list.specs.EachRow.{AgreeInFamilies, IsAddressRow, IsIngressRow, IsPairRow, IsPodOf, IsRowOf, IsSpanRow, LetSomePass}
pub use Rattle.np_command_list.specs.Promise.{IsNamed, RefusesList, SayWhatPasses, SaysAddresses, SaysAll, SaysIngresses, SaysPods, query_for}
pub use Rattle.np_command_list.specs.Report.{list_reply, listing, listing_of, listing_text}
unfoldable pub use Rattle.np_command_list.specs.Report.{controller_of, query_of}
pub use Rattle.np_command_list.specs.RowOrder.{ComesBefore, mark_rank, row_rank, row_rank_of, span_rank}
pub use Rattle.np_command_list.specs.Types.{AddressRow, AddressSpan, All, Controller, Direction, Egress, EstateLists, Family, Fault, FocusSide, Format, Four, Ingress, Listing, Pod, PortSpot, Query, Range, Report, Row, RowEnd, RowKey, Six, Span, UnknownEnd, Work}
