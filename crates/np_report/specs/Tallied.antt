-- Rows that are counted by their ends.
use Rattle.std.specs.Prelude.{ℕ, ◌+◌}
use Rattle.np_report.specs.Types.{Controller, RowEnd, RowKey, Span, Work}

-- how many rows of pairs of workloads, of addresses and of the controller of Ingresses there are
pub record Counts : Type 0 where
  pub pairs : ℕ
  pub addresses : ℕ
  pub controllers : ℕ

abbrev pub no_rows : Counts
no_rows = record { pairs = 0; addresses = 0; controllers = 0 }

abbrev pub row_count : Counts → ℕ
row_count counts = counts.pairs + counts.addresses + counts.controllers

-- One more row: one that has a range of addresses is of addresses, another that has the controller is of that, and one of
-- two workloads is of a pair.
abbrev pub with_ends : Counts → RowEnd → RowEnd → Counts
with_ends counts (Span addresses) destination = record counts { addresses = counts.addresses + 1 }
with_ends counts (Work source) (Span addresses) = record counts { addresses = counts.addresses + 1 }
with_ends counts (Work source) Controller = record counts { controllers = counts.controllers + 1 }
with_ends counts (Work source) (Work destination) = record counts { pairs = counts.pairs + 1 }
with_ends counts Controller (Span addresses) = record counts { addresses = counts.addresses + 1 }
with_ends counts Controller Controller = record counts { controllers = counts.controllers + 1 }
with_ends counts Controller (Work destination) = record counts { controllers = counts.controllers + 1 }

abbrev pub with_row : Counts → RowKey → Counts
with_row counts key = with_ends counts key.source key.destination
