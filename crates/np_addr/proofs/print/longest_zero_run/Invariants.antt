use Rattle.std.proofs.Common.{◌≡◌, ◌+◌, ◌≤◌, length, drop}
use Rattle.std.specs.Net.Text.{zero_run, longest_zero_run}
use Rattle.np_addr.proofs.print.longest_zero_run.Given as goal

-- the run at this place, and the first of the longest runs from here on
abbrev pub invariant-loop-place : goal.invariant-loop-place
invariant-loop-place l =
    (l.count ≡ zero_run (drop l.place l.groups)) × (l.longest ≡ (longest_zero_run (drop l.place l.groups)).1)
    × (l.start ≡ l.place + (longest_zero_run (drop l.place l.groups)).0)
    × (l.place + l.count ≤ length l.groups) × (l.start + l.longest ≤ length l.groups)
