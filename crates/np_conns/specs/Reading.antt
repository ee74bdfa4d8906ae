-- What the readers of the parts of a text answer, where the text is printed.
use Rattle.std.specs.Prelude.{◌≡◌, ℕ, List, ◌∷◌, Bool, ◌&&◌, Result, MatchResult, codes, ◌⊎◌, ◌++◌}
use Rattle.std.specs.List.{list_any, AllByRecursion}
use Rattle.np_base.specs.Ranges.{is_within, holds}
use Rattle.np_conns.specs.Types.{ConnsFault, NoMemory, PortSpot, Proto, Range}
use Rattle.np_conns.specs.Conns.{Conns, has_spot, same_proto, IsRun}
use Rattle.np_conns.specs.ConnsText.{part_text}

-- the answer has exactly the ports that pass, or memory is wanting
abbrev pub GivesPorts : (ℕ → Bool) → Result (List (Range ℕ)) ConnsFault → Type 0
GivesPorts passes answer = MatchResult answer (λ made. (port : ℕ) → holds (λ p. p) made port ≡ passes port) (λ fault. fault ≡ NoMemory)

-- the answer has exactly the spots that pass, or memory is wanting
abbrev pub GivesSpots : (PortSpot → Bool) → Result Conns ConnsFault → Type 0
GivesSpots passes answer = MatchResult answer (λ made. (spot : PortSpot) → has_spot made spot ≡ passes spot) (λ fault. fault ≡ NoMemory)

-- whether a port is in one of the runs
abbrev pub in_runs : List (Range ℕ) → ℕ → Bool
in_runs runs port = list_any (λ run. is_within (λ p. p) run port) runs

-- what a text has of one protocol: its runs, of which there is at least one
pub record Part : Type 0 where
  pub proto : Proto
  pub first : Range ℕ
  pub others : List (Range ℕ)

abbrev pub runs_of_part : Part → List (Range ℕ)
runs_of_part part = part.first ∷ part.others

-- its runs are of ports, and none is empty
abbrev pub IsPart : Part → Type 0
IsPart part = AllByRecursion IsRun (runs_of_part part)

abbrev pub text_of_part : Part → List ℕ
text_of_part part = part_text part.proto (runs_of_part part)

-- the text of a part, with or without a space before it
abbrev pub IsTextOfPart : List ℕ → Part → Type 0
IsTextOfPart text part = (text ≡ text_of_part part) ⊎ (text ≡ codes " " ++ text_of_part part)

-- whether the spot is in the part
abbrev pub in_part : PortSpot → Part → Bool
in_part spot part = same_proto spot.proto part.proto && in_runs (runs_of_part part) spot.port

-- whether the spot is in one of the parts
abbrev pub in_parts : List Part → PortSpot → Bool
in_parts parts spot = list_any (in_part spot) parts
