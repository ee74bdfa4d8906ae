-- The definitions and types of this crate that its proofs and the crates above speak of, one import line a file.
pub use Rattle.np_table.specs.PairRules.{AreEnds, rules_of_pair, side_with_address}
pub use Rattle.np_table.specs.Right.{AreRight, IsNext, IsRight, Stretch, is_within, stretch_at, stretch_of, stretches_of, walk_on}
unfoldable pub use Rattle.np_table.specs.Right.{walk}
pub use Rattle.np_table.specs.RowCache.{CachesAlso, CachesTheSame, cached_at, cached_count, cached_of, row_with}
unfoldable pub use Rattle.np_table.specs.RowCache.{IsCached}
pub use Rattle.np_table.specs.Rows.{address_row, all_rows, four_of, has_no_range, is_nothing, key_of, pair_key, row_if, row_of, rows_in, rows_of_addresses, rows_of_both, rows_towards, six_of, workloads}
unfoldable pub use Rattle.np_table.specs.Rows.{address_rows, all_address_rows, all_pair_rows, pair_rows}
pub use Rattle.np_table.specs.Said.{AllowSamePorts, IsInFamily, IsUnmarked, OneRowSays, allows_in, is_address, is_between, is_of_address, is_workload, rows_between, rows_of_address, says, span_has, speaks_of}
pub use Rattle.np_table.specs.Table.{Table, estate_table}
unfoldable pub use Rattle.np_table.specs.Table.{table_of}
pub use Rattle.np_table.specs.ToCome.{IsOfSameSource, IsUnderWay, RowsToCome, address_rows_at, direction_at, due_for_kinds, greatest, pair_count, pair_rows_at, place_count, rules_of}
unfoldable pub use Rattle.np_table.specs.ToCome.{due_at, due_from, most_rules, rows_at, rows_from}
pub use Rattle.np_table.specs.Types.{AddressRow, AddressSpan, CachedConns, Controller, Direction, Egress, EstateLists, Family, Four, Ingress, PairEnds, Piece, PortSpot, Proto, Range, Row, RowEnd, RowKey, Sctp, Six, Span, Tcp, Udp, Work}
pub use Rattle.np_table.specs.steps.PairSides.{KnowsPair, conns_of_kinds, ends_of}
