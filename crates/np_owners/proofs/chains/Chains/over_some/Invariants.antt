use Rattle.std.proofs.Common.{◌≡◌, ◌<◌, ℕ, ◌&&◌, length}
use Rattle.std.specs.List.{list_any, range_with_len}
use Rattle.np_owners.specs.Prelude.{is_at_or_over, is_marked}
use Rattle.np_owners.proofs.chains.Chains.over_some.Given as goal

-- marked is what is a start or stands over one, of the places so far
abbrev pub invariant-loop-place : goal.invariant-loop-place
invariant-loop-place l =
    (length l.marks.items ≡ length l.self)
    × ((above : ℕ) → above < length l.self → is_marked l.marks.items above ≡ list_any (λ place. is_marked l.starts place && is_at_or_over l.self above place) (range_with_len 0 l.place))
