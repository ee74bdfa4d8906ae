use Rattle.std.proofs.Common.{◌≡◌, ◌<◌, ◌-◌, ◌||◌, ℕ, length, nat_eq}
use Rattle.std.specs.List.{list_any}
use Rattle.np_owners.specs.Prelude.{chain, is_at_or_over, is_marked}
use Rattle.np_owners.proofs.chains.mark_chain.Given as goal

-- the marks so far and the rest of the chain, from here on, are those at first and the whole chain
abbrev pub invariant-loop-mark : goal.invariant-loop-mark
invariant-loop-mark l =
    (l.at < length l.ups) × (length l.marks ≡ length l.ups)
    × ((above : ℕ) → above < length l.ups → (is_marked l.marks above || list_any (λ owner. nat_eq owner above) (chain l.ups (length l.ups - l._mark) l.at)) ≡
    (is_marked l.fn.marks above || is_at_or_over l.ups above l.place))
