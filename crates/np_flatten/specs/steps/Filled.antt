-- Ranges of addresses that are not empty.
use Rattle.std.specs.Prelude.{◌≤◌}
use Rattle.np_flatten.specs.Types.{AddressSpan}
use Rattle.np_table.specs.declared.rows.AddressSpan.TheVariants as span

-- the range does not end before it begins
abbrev pub IsFilled : AddressSpan → Type 0
IsFilled (span.Four range) = range.lo ≤ range.hi
IsFilled (span.Six range) = range.lo ≤ range.hi
