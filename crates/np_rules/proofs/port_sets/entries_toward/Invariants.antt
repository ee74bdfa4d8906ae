use Rattle.std.proofs.Common.{◌≡◌, take}
use Rattle.std.specs.List.{list_any}
use Rattle.np_rules.specs.Prelude.{PortSpot, end_view}
use Rattle.np_rules.proofs.port_sets.entries_toward.Given as goal

-- the entries so far match what the first ones do
abbrev pub invariant-loop-entry : goal.invariant-loop-entry
invariant-loop-entry g l = (spot : PortSpot) → list_any (λ entry. g.E.PortEntry.matches entry.now (end_view l.destination) spot) l.made.items
    ≡ list_any (λ entry. g.E.PortEntry.matches entry (end_view l.destination) spot) (take l.entry-index l.entries)
