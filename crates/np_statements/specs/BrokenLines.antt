-- The first line whose statement does not hold.
use Rattle.std.specs.Prelude.{ℕ, List, Bool, Option, option_map, Result, Ok}
use Rattle.np_check.specs.Prelude.{allows_between, counterexample_of, first_given}
use Rattle.np_statements.specs.Types.{AskedLine, At, Broken, Counterexample, EstateLists, PlaceEnd, StatementLine}
use Rattle.np_check.specs.declared.counterexample.PlaceEnd.TheVariants.{Work}
use Rattle.np_statements.specs.FoundEnds.{ends_found}
use Rattle.np_statements.specs.Steps.{◌>>=◌}
use Rattle.np_kinds.specs.Prelude.{IsWorkload}

-- whether a packet is allowed
abbrev pub is_allowed_counterexample : EstateLists → Counterexample → Bool
is_allowed_counterexample lists packet = allows_between lists packet.source packet.destination packet.family packet.spot

-- a packet that breaks the line of a number, with its verdict
abbrev pub broken_by : EstateLists → ℕ → Counterexample → Broken
broken_by lists line packet = record { line = line; packet = packet; allowed = is_allowed_counterexample lists packet }

-- how a line is broken, if it is: by the first packet that does not comply
unfoldable pub broken_of : EstateLists → AskedLine → Option Broken
broken_of lists asked = option_map (broken_by lists asked.line) (counterexample_of lists asked.question)

-- how the first broken line is
unfoldable pub first_broken : EstateLists → List AskedLine → Option Broken
first_broken lists asked = first_given (broken_of lists) asked

-- what is found of statements: how the first broken line is, or the first name that no workload has
unfoldable pub broken_among : EstateLists → List StatementLine → Result (Option Broken) (List ℕ)
broken_among lists statements = do
  asked ← ends_found lists statements
  Ok (first_broken lists asked)

-- an end of a packet is a workload, or an address
abbrev pub IsPlace : EstateLists → PlaceEnd → Type 0
IsPlace lists (Work work) = IsWorkload lists work
IsPlace lists (At address) = Unit {0}

-- so are both ends of the packet that breaks a line
abbrev pub HasPlaces : EstateLists → Broken → Type 0
HasPlaces lists broken = IsPlace lists broken.packet.source × IsPlace lists broken.packet.destination
