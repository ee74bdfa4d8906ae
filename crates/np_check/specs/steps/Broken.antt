-- Addresses with which a workload breaks a statement.
use Rattle.std.specs.Prelude.{ℕ, List, [], ◌∷◌, Bool, Option, None, Some, option_map, max, nat_le, if◌then◌else◌}
use Rattle.np_addr.specs.Prelude.{AddressRanges, family_of}
use Rattle.np_check.specs.Types.{Address, BreakingAddress, Counterexample, Family, Four, PortSpot, Range, Six, Wanted}
use Rattle.np_check.specs.Counterexamples.{addresses_of, breaks, number_of_address}
use Rattle.np_check.specs.Firsts.{first_given, first_spot}
use Rattle.np_check.specs.Order.{comes_before}
use Rattle.np_conns.specs.Prelude.{Conns, has_spot}
use Rattle.np_table.specs.declared.rows.AddressRow.{AddressRow}
use Rattle.np_table.specs.declared.rows.AddressSpan.{AddressSpan}
use Rattle.np_table.specs.declared.rows.AddressSpan.TheVariants as span

-- the first packet with an address that breaks the statement, by a test of what passes
abbrev pub broken_at : Wanted → Conns → (Family → ℕ → PortSpot → Bool) → Address → Option BreakingAddress
broken_at wanted conns passes address =
    option_map (λ spot. record { address = address; spot = spot })
    (first_spot (breaks wanted conns (passes (family_of address) (number_of_address address))))

-- the first of those with the addresses of a set
unfoldable pub first_broken_of : Wanted → Conns → AddressRanges → (Family → ℕ → PortSpot → Bool) → Option BreakingAddress
first_broken_of wanted conns block passes = first_given (broken_at wanted conns passes) (addresses_of block)

-- ---- range by range

-- the greater of two numbers, where it is at most a third
abbrev pub first_common : ℕ → ℕ → ℕ → Option ℕ
first_common lo low high = if nat_le (max lo low) high then Some (max lo low) else None

-- the first number from one to another that some ranges have, if they have one
abbrev pub first_number : {P : Type 0} → (P → ℕ) → List (Range P) → ℕ → ℕ → Option ℕ
first_number number_of [] low high = None
first_number number_of (range ∷ ranges) low high =
    if nat_le low (number_of range.hi)
    then first_common (number_of range.lo) low high
    else first_number number_of ranges low high

-- the first address of a set in a range
abbrev pub first_within : AddressRanges → AddressSpan → Option Address
first_within block (span.Four range) = option_map Four (first_number (λ a. a) block.first range.lo range.hi)
first_within block (span.Six range) = option_map Six (first_number (λ a. a) block.second range.lo range.hi)

abbrev pub with_spot : Option Address → Option PortSpot → Option BreakingAddress
with_spot None spot = None
with_spot (Some address) spot = option_map (λ s. record { address = address; spot = s }) spot

-- the first packet with an address of a set in a range that breaks the statement
abbrev pub broken_in : Wanted → Conns → AddressRanges → AddressRow → Option BreakingAddress
broken_in wanted conns block row = with_spot (first_within block row.span) (first_spot (breaks wanted conns (has_spot row.conns)))

-- ---- packets from addresses

-- of two packets the one whose source comes first, and the first of the two where they have one source
abbrev pub earlier_of : Counterexample → Counterexample → Counterexample
earlier_of kept counterexample = if comes_before counterexample.source kept.source then counterexample else kept

abbrev pub earlier : Option Counterexample → Option Counterexample → Option Counterexample
earlier first None = first
earlier None (Some counterexample) = Some counterexample
earlier (Some kept) (Some counterexample) = Some (earlier_of kept counterexample)
