use Rattle.std.proofs.Common.{◌≡◌, ◌≤◌, length}
use denote.Text.{Utf8}
use denote.Shadow.{shadow}
use Rattle.np_addr.specs.Ipv6Grammar.{groups_between}
use Rattle.np_addr.specs.Prelude.{pieces}
use Rattle.np_addr.proofs.SideLemmas.{behind}
use Rattle.np_addr.proofs.ipv6.read_groups.Given as goal

-- the groups so far and those of the rest are those of the text
abbrev pub invariant-loop-piece : goal.invariant-loop-piece
invariant-loop-piece l =
    shadow (Utf8 l.rest) × (length l.groups ≤ 8)
    × (groups_between l.dotted (pieces 58 l.text) ≡ behind l.groups (groups_between l.dotted (pieces 58 l.rest)))

abbrev pub decreases-loop-piece : goal.decreases-loop-piece
decreases-loop-piece l = length l.rest
