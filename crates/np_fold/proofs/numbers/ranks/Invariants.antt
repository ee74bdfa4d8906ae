use Rattle.std.proofs.Common.{◌≡◌, ◌+◌, ◌<◌, ℕ, drop, length, get_or}
use Rattle.np_fold.specs.steps.Folded as spec
use Rattle.np_fold.proofs.numbers.ranks.Given as goal

-- each place has its number among the things from here on
abbrev pub invariant-loop-number : goal.invariant-loop-number
invariant-loop-number l = record {
  count : length l.ranks.items ≡ length l.named;
  each : (place : ℕ) → place < length l.named → get_or l.ranks.items place 0 ≡ l.number + spec.number_among (drop l.number l.named) place;
}
